use Rattle.entities.specs.Census.{population}
use Rattle.composed.proofs.Sides.{in_first, in_rest, ids_in_first, ids_in_rest}
use Rattle.specs.specs.Typed.Shown.{if_ok, if_err, shown_gives, shown_marker_refused}
use Rattle.composed.proofs.both.BothStorages.mark.Goals as goal

pub returns-in-First-clause-ok : goal.returns-in-First-clause-ok
returns-in-First-clause-ok g c = rw c.in-First.is (if_ok c.mark.result _ _ (shown_gives (in_first (g.A.Held.table c.args.self.now.first) (g.A.Held.table c.mark.new.self) (g.B.Held.table c.args.self.now.rest)) _ _ (λ v h. h) (population c.args.entities.now) c.in-First.slot c.args.e) c.mark.ensures.ok)

pub returns-in-First-clause-refused : goal.returns-in-First-clause-refused
returns-in-First-clause-refused g c = rw c.in-First.is (if_err c.mark.result _ _ (shown_marker_refused (in_first (g.A.Held.table c.args.self.now.first) (g.A.Held.table c.args.self.now.first) (g.B.Held.table c.args.self.now.rest)) (g.A.Held.marks.holds c.in-First.slot) _ (population c.args.entities.now) c.in-First.slot c.args.e) c.mark.ensures.refused)

pub returns-in-Rest-clause-ok : goal.returns-in-Rest-clause-ok
returns-in-Rest-clause-ok g c = rw c.in-Rest.is (if_ok c.mark-in-Rest.result _ _ (shown_gives (in_rest (g.A.Held.table c.args.self.now.first) (g.B.Held.table c.args.self.now.rest) (g.B.Held.table c.mark-in-Rest.new.self)) _ _ (λ v h. h) (population c.args.entities.now) c.in-Rest.slot c.args.e) c.mark-in-Rest.ensures.ok)

pub returns-in-Rest-clause-refused : goal.returns-in-Rest-clause-refused
returns-in-Rest-clause-refused g c = rw c.in-Rest.is (if_err c.mark-in-Rest.result _ _ (shown_marker_refused (in_rest (g.A.Held.table c.args.self.now.first) (g.B.Held.table c.args.self.now.rest) (g.B.Held.table c.args.self.now.rest)) (g.B.Held.marks.holds c.in-Rest.slot) _ (population c.args.entities.now) c.in-Rest.slot c.args.e) c.mark-in-Rest.ensures.refused)

pub returns-in-First-clause-ids : goal.returns-in-First-clause-ids
returns-in-First-clause-ids g c = rw c.in-First.is (if_ok c.mark.result _ _ (ids_in_first (g.A.Held.ids c.args.self.now.first) (g.A.Held.ids c.mark.new.self) (g.B.Held.ids c.args.self.now.rest) c.in-First.slot) c.mark.ensures.ids)

pub returns-in-Rest-clause-ids : goal.returns-in-Rest-clause-ids
returns-in-Rest-clause-ids g c = rw c.in-Rest.is (if_ok c.mark-in-Rest.result _ _ (ids_in_rest (g.A.Held.ids c.args.self.now.first) (g.B.Held.ids c.args.self.now.rest) (g.B.Held.ids c.mark-in-Rest.new.self) c.in-Rest.slot) c.mark-in-Rest.ensures.ids)
