use Rattle.std.proofs.Common.{◌≡◌, false, rules, arith}
use Rattle.joins.proofs.BesideLemmas.{give_at_most, gives_here, at_some}
use Rattle.joins.proofs.cursors.steps.Steps.beside.Goals as goal

pub invariant_of-self : goal.invariant_of-self
invariant_of-self g c =
    let at = c.args.self.now.here c.in_ok-id.id c.in_ok-id.was in
    record {
      ready = λ i ge h. c.get.ensures.later i (omega (arith, at.1, ge)) (c.args.self.now.ready i ge h);
      here = λ x e. let b = c.args.self.now.here x e in ((λ t. cc), b.1);
    }

pub returns-clause-later : goal.returns-clause-later
returns-clause-later g c = λ i r ge v. let at = c.args.self.now.here c.in_ok-id.id c.in_ok-id.was in c.get.ensures.later_gives i r (omega (arith, at.1, ge)) v

pub returns-clause-given : goal.returns-clause-given
returns-clause-given g c =
    let fresh : c.args.self.now.given ≡ false = search rules in
    at_some _ _ c.in_ok-id.id c.in_ok-id.was (record { ahead = gives_here _ _ _ _ fresh c.in_ok-id.was; value = c.get.ensures.given })

pub returns-clause-gives : goal.returns-clause-gives
returns-clause-gives g c = λ i r e.
    let at = c.args.self.now.here c.in_ok-id.id c.in_ok-id.was in
    let before = give_at_most c.args.self.now.given c.args.self.now.current _ (λ x is. (c.args.self.now.here x is).1) in
    record { ahead = omega (arith, before, e.ahead); value = c.get.ensures.later_gives i r (omega (arith, at.1, e.ahead)) e.value }
