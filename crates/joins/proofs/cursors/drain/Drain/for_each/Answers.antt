use Rattle.std.proofs.Common.{rules, sym, ◌∙◌, ap, subst, ◌≡◌, ℕ, [], length, ◌+◌, List, ◌∷◌, ◌++◌, Some}
use Rattle.std.specs.List.{Contains}
use Rattle.std.specs.FinMap as map
use Rattle.hibits.specs.Left.{left-ascends}
use Rattle.storages.specs.Meaning.{HasRoom}
use Rattle.storages.specs.Slot.{Takes}
use Rattle.joins.specs.Draining.{slot, here, rest, gives}
use Rattle.joins.specs.Taking.{TakenAt}
use Rattle.joins.proofs.CallLemmas.{at_some, moved_over, one_longer}
use Rattle.joins.proofs.TakeLemmas.{one_taken, gone_each, all_taken, taking_stopped, taking_stands_here, ahead_stays}
use Rattle.joins.proofs.cursors.drain.Drain.for_each.Goals as goal

pub loop-id-preserved : goal.loop-id-preserved
loop-id-preserved g c =
    let i = c.in-Some._id in
    let next = c.in-Some.ensures in
    let beside = c.in-Some-beside.ensures in
    let took = c.in-Ok-Some.ensures in
    let inv = c.loop-id.invariant in
    let done = inv.calls.0 in
    let at : here c.beside.new.self ≡ Some i = beside.here ∙ next.here in
    let same : slot c.beside.new.self ≡ slot c.loop-id.self = beside.slot ∙ next.slot in
    let was : map.get (slot c.loop-id.self).map i ≡ Some c.in-Ok-Some.component = search rules in
    let takes : Takes (slot c.loop-id.self) (slot c.item.new.self) i = search rules in
    let given = at_some (λ k. gives c.next.new.self k c.in-Some-beside.item) _ i next.here beside.given in
    let left : rest c.item.new.self ≡ rest c.next.new.self = took.rest ∙ beside.rest in
    let call : TakenAt _ _ i _ (slot c.loop-id.self) _ (slot c.item.new.self) = record {
      component = c.in-Ok-Some.component;
      item = c.in-Some-beside.item;
      was = was;
      beside = inv.given i _ (next.gives i _ given);
      takes = takes;
      call = c.f.ensures;
    } in
    record {
      same_name = took.same_reference ∙ beside.same_reference ∙ next.same_reference ∙ inv.same_name;
      given = λ k r e. inv.given k r (next.gives k r (beside.gives k r (took.gives k r e)));
      ahead = λ q d. ahead_stays _ _ i _ _ _ (left-ascends _ _) next.rest takes.map inv.ahead q (subst (λ (l : List ℕ). Contains l q) left d);
      enough = λ room.
          let before = inv.enough room in
          let count : length (rest c.loop-id.self) ≡ length (rest c.item.new.self) + 1 = ap length next.rest ∙ one_longer i _ ∙ ap (λ (l : List ℕ). length l + 1) (sym left) in
          takes.room _ (subst (λ (n : ℕ). HasRoom (slot c.loop-id.self).room n) count before);
      room = takes.needs_room ∙ inv.room;
      calls = (
        done ++ (i ∷ []),
        inv.calls.1 ∙ ap (λ (l : List ℕ). done ++ l) (next.rest ∙ ap (λ (l : List ℕ). i ∷ l) (sym left)) ∙ sym (moved_over done i _),
        one_taken _ _ done i _ _ _ _ _ _ inv.calls.2 call,
      );
    }

pub returns-in-Err-clause-err : goal.returns-in-Err-clause-err
returns-in-Err-clause-err g c =
    let inv = c.loop-id.invariant in
    taking_stopped _ _ _ inv.calls.0 _ c.in-Some._id _ _ _ _ _ (slot c.beside.new.self) _ inv.calls.1 c.in-Some.ensures.rest (c.in-Some-beside.ensures.slot ∙ c.in-Some.ensures.slot) inv.calls.2 c.in-Err.ensures.err

pub returns-in-Err-clause-place : goal.returns-in-Err-clause-place
returns-in-Err-clause-place g c =
    let inv = c.loop-id.invariant in
    let at : here c.item.new.self ≡ Some c.in-Some._id = c.in-Err.ensures.here ∙ c.in-Some-beside.ensures.here ∙ c.in-Some.ensures.here in
    let left : rest c.item.new.self ≡ rest c.next.new.self = c.in-Err.ensures.rest ∙ c.in-Some-beside.ensures.rest in
    taking_stands_here _ _ _ inv.calls.0 _ c.in-Some._id _ _ _ _ _ (slot c.beside.new.self) _ inv.calls.1 c.in-Some.ensures.rest (c.in-Some-beside.ensures.slot ∙ c.in-Some.ensures.slot) inv.calls.2 c.in-Err.ensures.err _ _ at left

pub returns-clause-gone : goal.returns-clause-gone
returns-clause-gone g c =
    let inv = c.loop-id.invariant in
    gone_each _ _ _ _ _ _ _ (all_taken _ _ _ inv.calls.0 _ _ _ _ _ _ inv.calls.1 c.in_default.ensures.rest c.in_default.ensures.slot inv.calls.2)
