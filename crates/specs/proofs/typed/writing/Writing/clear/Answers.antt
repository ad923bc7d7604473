use Rattle.std.proofs.Common.{refl}
use Rattle.specs.proofs.Going.{on_cleared}
use Rattle.specs.proofs.typed.writing.Writing.clear.Goals as goal

pub returns-in-Ok-clause-goes_on : goal.returns-in-Ok-clause-goes_on
returns-in-Ok-clause-goes_on g c = on_cleared _ _ g.S.Has.the_slot (record { people = refl; table = c.in-Ok.ensures.ok; ids = c.in-Ok.ensures.ids })
