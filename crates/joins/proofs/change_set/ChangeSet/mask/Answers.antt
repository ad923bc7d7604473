use Rattle.std.proofs.Common.{ap, sym, ◌∙◌}
use Rattle.std.specs.FinMap as map
use Rattle.joins.proofs.Holding.{contains-held}
use Rattle.joins.proofs.change_set.ChangeSet.mask.Goals as goal

pub returns : goal.returns
returns g c = λ q. c.mask.ensures q ∙ sym (contains-held c.self.inside.changes.map q) ∙ ap (λ s. map.contains_key s q) c.self.view_is
