use Rattle.std.proofs.Common.{arith, rules}
use Rattle.joins.specs.Over.{IsOver}
use Rattle.joins.proofs.BesideLemmas.{give_at_most, steps_from}
use Rattle.joins.proofs.cursors.steps.Steps.next.Goals as goal

pub next-found-requires : goal.next-found-requires
unfolding IsOver
next-found-requires g c = search rules

pub returns-clause-walk : goal.returns-clause-walk
unfolding IsOver
returns-clause-walk g c = search rules

pub returns-clause-gives : goal.returns-clause-gives
returns-clause-gives g c = λ i r e.
    let before = give_at_most c.args.self.now.given c.args.self.now.current _ (λ x is. (c.args.self.now.here x is).1) in
    let from = steps_from _ c.next-found.result _ _ c.next-found.ensures.next c.next-found.ensures.stays in
    record { ahead = omega (arith, before, from, e.ahead); value = e.value }
