use Rattle.composed.proofs.Sides.{in_first, in_rest}
use Rattle.specs.specs.Typed.Shown.{shown_gets_clone}
use Rattle.composed.proofs.both.BothCloneStorages.get.Goals as goal

pub returns-in_ok-get-in-First-clause-ok : goal.returns-in_ok-get-in-First-clause-ok
returns-in_ok-get-in-First-clause-ok g c = rw (c.in-First.is, c.first.ensures) (shown_gets_clone (in_first (g.A.Held.table c.args.self.now.first) (g.A.Held.table c.args.self.now.first) (g.B.Held.table c.args.self.now.rest)) _ _ (λ x y r. r) _ c.in-First.slot c.args.e _ c.in_ok-get-in-First.ensures.ok)

pub returns-in_ok-get-in-Rest-clause-ok : goal.returns-in_ok-get-in-Rest-clause-ok
returns-in_ok-get-in-Rest-clause-ok g c = rw (c.in-Rest.is, c.rest.ensures) (shown_gets_clone (in_rest (g.A.Held.table c.args.self.now.first) (g.B.Held.table c.args.self.now.rest) (g.B.Held.table c.args.self.now.rest)) _ _ (λ x y r. r) _ c.in-Rest.slot c.args.e _ c.in_ok-get-in-Rest.ensures.ok)
