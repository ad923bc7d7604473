use Rattle.composed.proofs.Sides.{in_first, in_rest}
use Rattle.specs.specs.Typed.Shown.{if_ok, if_err, shown_rechannels, shown_call_refused}
use Rattle.composed.proofs.both.BothStorages.call_channel.Goals as goal

pub returns-in-First-clause-ok : goal.returns-in-First-clause-ok
returns-in-First-clause-ok g c = rw c.in-First.is (if_ok c.call_channel.result _ _ (λ reply. shown_rechannels (in_first (g.A.Held.table c.args.self.now.first) (g.A.Held.table c.call_channel.new.self) (g.B.Held.table c.args.self.now.rest)) c.in-First.slot _ _) c.call_channel.ensures.ok)

pub returns-in-First-clause-refused : goal.returns-in-First-clause-refused
returns-in-First-clause-refused g c = rw c.in-First.is (if_err c.call_channel.result _ _ (shown_call_refused (in_first (g.A.Held.table c.args.self.now.first) (g.A.Held.table c.args.self.now.first) (g.B.Held.table c.args.self.now.rest)) c.args.call c.in-First.slot) c.call_channel.ensures.refused)

pub returns-in-Rest-clause-ok : goal.returns-in-Rest-clause-ok
returns-in-Rest-clause-ok g c = rw c.in-Rest.is (if_ok c.call_channel-in-Rest.result _ _ (λ reply. shown_rechannels (in_rest (g.A.Held.table c.args.self.now.first) (g.B.Held.table c.args.self.now.rest) (g.B.Held.table c.call_channel-in-Rest.new.self)) c.in-Rest.slot _ _) c.call_channel-in-Rest.ensures.ok)

pub returns-in-Rest-clause-refused : goal.returns-in-Rest-clause-refused
returns-in-Rest-clause-refused g c = rw c.in-Rest.is (if_err c.call_channel-in-Rest.result _ _ (shown_call_refused (in_rest (g.A.Held.table c.args.self.now.first) (g.B.Held.table c.args.self.now.rest) (g.B.Held.table c.args.self.now.rest)) c.args.call c.in-Rest.slot) c.call_channel-in-Rest.ensures.refused)
