use Rattle.composed.proofs.Sides.{in_first, in_rest}
use Rattle.specs.specs.Typed.Shown.{on_ok, if_err, shown_clears, shown_clear_refused}
use Rattle.composed.proofs.both.BothStorages.clear.Goals as goal

pub returns-in-First-clause-ok : goal.returns-in-First-clause-ok
returns-in-First-clause-ok g c = rw c.in-First.is (on_ok c.clear.result (shown_clears (in_first _ _ _) c.in-First.slot) c.clear.ensures.ok)

pub returns-in-First-clause-refused : goal.returns-in-First-clause-refused
returns-in-First-clause-refused g c = rw c.in-First.is (if_err c.clear.result _ _ (shown_clear_refused (in_first (g.A.Held.table c.args.self.now.first) (g.A.Held.table c.args.self.now.first) (g.B.Held.table c.args.self.now.rest)) c.in-First.slot) c.clear.ensures.refused)

pub returns-in-Rest-clause-ok : goal.returns-in-Rest-clause-ok
returns-in-Rest-clause-ok g c = rw c.in-Rest.is (on_ok c.clear-in-Rest.result (shown_clears (in_rest _ _ _) c.in-Rest.slot) c.clear-in-Rest.ensures.ok)

pub returns-in-Rest-clause-refused : goal.returns-in-Rest-clause-refused
returns-in-Rest-clause-refused g c = rw c.in-Rest.is (if_err c.clear-in-Rest.result _ _ (shown_clear_refused (in_rest (g.A.Held.table c.args.self.now.first) (g.B.Held.table c.args.self.now.rest) (g.B.Held.table c.args.self.now.rest)) c.in-Rest.slot) c.clear-in-Rest.ensures.refused)
