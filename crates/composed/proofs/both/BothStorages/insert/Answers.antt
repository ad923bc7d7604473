use Rattle.std.proofs.Common.{refl}
use Rattle.composed.proofs.Sides.{in_first, in_rest}
use Rattle.specs.specs.Typed.Shown.{shown_inserts}
use Rattle.composed.proofs.both.BothStorages.insert.Goals as goal

pub returns-in-Ok-clause-ok : goal.returns-in-Ok-clause-ok
returns-in-Ok-clause-ok g c = rw (c.in-First.is, c.first.ensures) (shown_inserts (in_first _ _ _) g.A.Held.place _ _ c.args.e c.in-First.value _ refl c.in-Ok.ensures.ok)

pub returns-in-Ok-insert-clause-ok : goal.returns-in-Ok-insert-clause-ok
returns-in-Ok-insert-clause-ok g c = rw (c.in-Rest.is, c.rest.ensures) (shown_inserts (in_rest _ _ _) g.B.Held.place _ _ c.args.e c.in-Rest.value _ refl c.in-Ok-insert.ensures.ok)
