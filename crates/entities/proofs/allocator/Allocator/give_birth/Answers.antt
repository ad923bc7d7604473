use Rattle.std.proofs.Common.{◌∙◌, ap}
use Rattle.entities.specs.Population.{Population, born_as}
use Rattle.entities.specs.Census.{Census, population}
use Rattle.entities.proofs.allocator.Allocator.give_birth.Goals as goal

pub returns-clause-born : goal.returns-clause-born
returns-clause-born c =
    c.bear_next.ensures.born
    ∙ ap (λ (p : Population). born_as c.args.pending p c.bear_next.result.0) (c.in_ok-make_next_room.ensures.population ∙ ap (λ (x : Census). population x) c.in_default.ensures.none.2)
