use Rattle.std.proofs.Common.{◌≡◌, ◌∙◌, ap, pos, suc, subst, take, get_or, rules, w32, FitsSigned}
use Rattle.std.specs.Prelude.{nat_abs}
use Rattle.std.specs.List.{Contains}
use Rattle.std.proofs.lemmas.Bool.{both_ways}
use Rattle.std.proofs.lemmas.List.{get_or_default}
use Rattle.entities.specs.declared.entity.Entity.{Entity}
use Rattle.entities.specs.Lowered.{IsOneOf}
use Rattle.entities.proofs.Kept.Stack.{alive_at}
use Rattle.entities.proofs.Population.Lowers.{lowered_is, lowered_more, distinct_of_more, stands_earlier}
use Rattle.entities.proofs.lowering.lower.Goals as goal

pub returns-then-not-is_one_of-clause-stopped : goal.returns-then-not-is_one_of-clause-stopped
returns-then-not-is_one_of-clause-stopped c lt d =
    let d0 : Entity = record { 0 = 0; 1 = record { 0 = pos 0 } } in
    let es = c.args.list.now in
    let k = c.loop-k.k in
    subst (λ (e : Entity). IsOneOf c.args.generations.now e → Contains (take k es) e) (get_or_default es k d0 d lt)
    (stands_earlier c.args.generations.now c.loop-k.generations (take k es) (get_or es k d0) c.loop-k.invariant.lowered c.loop-k.invariant.distinct.0 (λ alive. both_ways _ c.if-not-is_one_of.true (c.is_one_of.ensures.one.1 alive)))

pub loop-k-preserved : goal.loop-k-preserved
loop-k-preserved c =
    let d : Entity = record { 0 = 0; 1 = record { 0 = pos 0 } } in
    let gs = c.args.generations.now in
    let es = c.args.list.now in
    let k = c.loop-k.k in
    let alive = c.is_one_of.ensures.one.0 c.if-not-is_one_of.false in
    let at = alive_at c.loop-k.generations (get_or es k d).0 alive.0 in
    let fits : FitsSigned w32 (get_or es k d).1.0 = search rules in
    let is : (get_or es k d).1.0 ≡ pos (suc at.0) = alive.1 ∙ ap (λ z. pos (nat_abs z)) at.1 in
    record {
      distinct = distinct_of_more gs c.loop-k.generations es k d c.loop-k-test.true c.loop-k.invariant.distinct c.loop-k.invariant.lowered alive;
      lowered = rw (lowered_is _ _ fits is) (lowered_more gs c.loop-k.generations es k at.0 d c.loop-k-test.true c.loop-k.invariant.lowered at.1 at.2);
    }
