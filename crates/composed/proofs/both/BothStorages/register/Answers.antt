use Rattle.composed.proofs.Sides.{in_first, in_rest}
use Rattle.specs.specs.Typed.Shown.{on_ok, shown_registers}
use Rattle.composed.proofs.both.BothStorages.register.Goals as goal

pub returns-in-First-clause-ok : goal.returns-in-First-clause-ok
returns-in-First-clause-ok g c = rw c.in-First.is (on_ok c.register.result (shown_registers (in_first (g.A.Held.table c.args.self.now.first) (g.A.Held.table c.register.new.self) (g.B.Held.table c.args.self.now.rest)) c.in-First.slot) c.register.ensures.ok)

pub returns-in-Rest-clause-ok : goal.returns-in-Rest-clause-ok
returns-in-Rest-clause-ok g c = rw c.in-Rest.is (on_ok c.register-in-Rest.result (shown_registers (in_rest (g.A.Held.table c.args.self.now.first) (g.B.Held.table c.args.self.now.rest) (g.B.Held.table c.register-in-Rest.new.self)) c.in-Rest.slot) c.register-in-Rest.ensures.ok)
