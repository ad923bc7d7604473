use Rattle.std.proofs.Common.{rules, refl, sym, ◌∙◌, ap, subst, ◌≡◌, ℕ, [], length, ◌+◌, List, ◌∷◌, ◌++◌, Some, arith, IsOk}
use Rattle.std.specs.Prelude.{IsSome, is_some, OnErr}
use Rattle.std.specs.List.{Contains}
use Rattle.std.specs.FinMap as map
use Rattle.hibits.specs.Left.{left-ascends}
use Rattle.storages.specs.declared.event.ComponentEvent.TheVariants.{Modified}
use Rattle.storages.specs.Slot.{Slot, Becomes, IsSame}
use Rattle.storages.specs.Meaning.{HasRoom}
use Rattle.joins.specs.Cursor.{slot, here, rest, gives}
use Rattle.joins.proofs.CallLemmas.{at_some, moved_over, one_longer, room_less, one_more, all_done, called_here, stopped_here, stands_here, becomes_each, kept, found, ahead_keeps}
use Rattle.joins.proofs.cursors.write_join.WriteJoin.for_each.Goals as goal

pub loop-id-init : goal.loop-id-init
loop-id-init g c = record { same_name = refl; given = λ i r h. h; ahead = λ q h. refl; enough = λ h. h; room = refl; calls = ([], refl, (refl, refl)) }

pub loop-id-preserved : goal.loop-id-preserved
loop-id-preserved g c =
    let i = c.in-Some._id in
    let w = c.f.new.arg2 in
    let h = c.item.follows.holds w in
    let next = c.in-Some.ensures in
    let beside = c.in-Some-beside.ensures in
    let at : here c.beside.new.self ≡ Some i = beside.here ∙ next.here in
    let same : slot c.beside.new.self ≡ slot c.loop-id.self = beside.slot ∙ next.slot in
    let ok : IsOk c.item.result = search rules in
    let becomes = at_some (λ k. Becomes (slot c.beside.new.self) (slot (c.item.follows.lender w)) (map.insert (slot c.beside.new.self).map k w) (Modified k)) _ i at (h.becomes ok) in
    let was = at_some (λ k. map.get (slot c.beside.new.self).map k ≡ Some c.in-Ok.component.now) _ i at c.in-Ok.ensures.value in
    let given = at_some (λ k. gives c.next.new.self k c.in-Some-beside.item) _ i next.here beside.given in
    let left : rest (c.item.follows.lender w) ≡ rest c.next.new.self = h.stays.rest ∙ beside.rest in
    let inv = c.loop-id.invariant in
    let done = inv.calls.0 in
    record {
      same_name = h.stays.same_reference ∙ beside.same_reference ∙ next.same_reference ∙ inv.same_name;
      given = λ k r e. inv.given k r (next.gives k r (beside.gives k r (h.stays.gives k r e)));
      ahead = λ q d. ahead_keeps _ _ i _ _ _ w (left-ascends _ _) next.rest (becomes.map ∙ ap (λ (t : Slot _). map.insert t.map i w) same) inv.ahead q (subst (λ (l : List ℕ). Contains l q) left d);
      enough = λ room.
          let before = inv.enough room in
          let count : length (rest c.loop-id.self) ≡ length (rest (c.item.follows.lender w)) + 1 = ap length next.rest ∙ one_longer i _ ∙ ap (λ (l : List ℕ). length l + 1) (sym left) in
          becomes.room _ (subst (λ (s : Slot _). HasRoom s.room (length (rest (c.item.follows.lender w)) + 1)) (sym same) (subst (λ (n : ℕ). HasRoom (slot c.loop-id.self).room n) count before));
      room = becomes.needs_room ∙ ap (λ (t : Slot _). is_some t.room) same ∙ inv.room;
      calls = (
        done ++ (i ∷ []),
        inv.calls.1 ∙ ap (λ (l : List ℕ). done ++ l) (next.rest ∙ ap (λ (l : List ℕ). i ∷ l) (sym left)) ∙ sym (moved_over done i _),
        one_more _ _ _ done i _ _ _ _ _ _ inv.calls.2 (called_here _ _ _ i _ _ _ _ _ c.in-Ok.component c.in-Some-beside.item _ same was (inv.given i _ (next.gives i _ given)) c.f.ensures becomes),
      );
    }

pub returns-in-Err-clause-same_reference : goal.returns-in-Err-clause-same_reference
returns-in-Err-clause-same_reference g c =
    let h = c.item.follows.holds-at-none in
    h.stays.same_reference ∙ c.in-Some-beside.ensures.same_reference ∙ c.in-Some.ensures.same_reference ∙ c.loop-id.invariant.same_name

pub returns-in-Err-clause-err : goal.returns-in-Err-clause-err
returns-in-Err-clause-err g c =
    let inv = c.loop-id.invariant in
    let h = c.item.follows.holds-at-none in
    let err : OnErr c.item.result (IsSame (slot c.beside.new.self) (slot c.item.follows.lender-at-none)) = h.same in
    let at_err : IsSame (slot c.beside.new.self) (slot c.item.follows.lender-at-none) = (rw c.in-Err.is at err) in
    stopped_here _ _ _ _ inv.calls.0 _ c.in-Some._id _ _ _ _ _ (slot c.beside.new.self) _ inv.calls.1 c.in-Some.ensures.rest (c.in-Some-beside.ensures.slot ∙ c.in-Some.ensures.slot) inv.calls.2 at_err

pub returns-in-Err-clause-place : goal.returns-in-Err-clause-place
returns-in-Err-clause-place g c =
    let inv = c.loop-id.invariant in
    let h = c.item.follows.holds-at-none in
    let err : OnErr c.item.result (IsSame (slot c.beside.new.self) (slot c.item.follows.lender-at-none)) = h.same in
    let at_err : IsSame (slot c.beside.new.self) (slot c.item.follows.lender-at-none) = (rw c.in-Err.is at err) in
    let at : here c.item.follows.lender-at-none ≡ Some c.in-Some._id = h.stays.here ∙ c.in-Some-beside.ensures.here ∙ c.in-Some.ensures.here in
    let left : rest c.item.follows.lender-at-none ≡ rest c.next.new.self = h.stays.rest ∙ c.in-Some-beside.ensures.rest in
    stands_here _ _ _ _ inv.calls.0 _ c.in-Some._id _ _ _ _ _ (slot c.beside.new.self) _ inv.calls.1 c.in-Some.ensures.rest (c.in-Some-beside.ensures.slot ∙ c.in-Some.ensures.slot) inv.calls.2 at_err _ _ at left

pub returns-in-Err-clause-succeeds : goal.returns-in-Err-clause-succeeds
returns-in-Err-clause-succeeds g c room =
    let enough = c.loop-id.invariant.enough room in
    let count : length (rest c.loop-id.self) ≡ length (rest c.next.new.self) + 1 = ap length c.in-Some.ensures.rest ∙ one_longer c.in-Some._id _ in
    let one : HasRoom (slot c.loop-id.self).room 1 = room_less _ _ 1 (omega (arith, count)) enough in
    let at : here c.beside.new.self ≡ Some c.in-Some._id = c.in-Some-beside.ensures.here ∙ c.in-Some.ensures.here in
    let stands : IsSome (here c.beside.new.self) = rw at refl in
    c.in-Err.ensures.succeeds stands (subst (λ (s : Slot _). HasRoom s.room 1) (sym (c.in-Some-beside.ensures.slot ∙ c.in-Some.ensures.slot)) one)

pub returns-clause-same_reference : goal.returns-clause-same_reference
returns-clause-same_reference g c = c.in_default.ensures.same_reference ∙ c.loop-id.invariant.same_name

pub returns-clause-calls : goal.returns-clause-calls
returns-clause-calls g c =
    let inv = c.loop-id.invariant in
    (_, all_done _ _ _ _ inv.calls.0 _ _ _ _ _ _ inv.calls.1 c.in_default.ensures.rest c.in_default.ensures.slot inv.calls.2)

pub returns-clause-each : goal.returns-clause-each
returns-clause-each g c q d =
    let inv = c.loop-id.invariant in
    found _ _ _ _ q _ _ _ _ (left-ascends _ _) d (all_done _ _ _ _ inv.calls.0 _ _ _ _ _ _ inv.calls.1 c.in_default.ensures.rest c.in_default.ensures.slot inv.calls.2)

pub returns-clause-others : goal.returns-clause-others
returns-clause-others g c q d =
    let inv = c.loop-id.invariant in
    kept _ _ _ _ q _ _ _ _ d (all_done _ _ _ _ inv.calls.0 _ _ _ _ _ _ inv.calls.1 c.in_default.ensures.rest c.in_default.ensures.slot inv.calls.2)

pub returns-clause-becomes : goal.returns-clause-becomes
returns-clause-becomes g c to h =
    let inv = c.loop-id.invariant in
    becomes_each _ _ _ to h _ _ _ _ _ (all_done _ _ _ _ inv.calls.0 _ _ _ _ _ _ inv.calls.1 c.in_default.ensures.rest c.in_default.ensures.slot inv.calls.2)
