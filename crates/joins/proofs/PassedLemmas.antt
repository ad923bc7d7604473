-- A walk goes on while what it passed changes.
use Rattle.std.proofs.Common.{◌≡◌, ◌≢◌, ◌⊎◌, ℕ, Bool, ◌&&◌, ◌≤◌, ◌<◌, ◌+◌, ◌/◌, ◌^◌, true, false, zero, suc, arith, refl, sym, ap, ◌∙◌, inl, inr}
use Rattle.std.specs.Prelude.{slice_index, Option, Some, None, is_some, IsSome, Result, Ok, Err, IfOk, OnErr}
use Rattle.hibits.specs.Lasting.{goes_on}
use Rattle.std.specs.FinMap as map
use Rattle.std.specs.Ordering.{nat_cmp}
use Rattle.std.proofs.Math.Nat.{div-one}
use Rattle.std.proofs.lemmas.Bool.{cases_eq, and_parts}
use Rattle.hibits.specs.declared.walk.Walk.{Walk}
use Rattle.hibits.specs.declared.limits.TheConstants.{LAYERS}
use Rattle.hibits.specs.Left.{left}
use Rattle.hibits.specs.Sets.{has_part, part_member, member_part, up_part}
use Rattle.hibits.specs.WalkOf.{IsWalkOf, from_of, position}
use Rattle.storages.specs.declared.event.ComponentEvent.TheVariants.{Removed}
use Rattle.storages.specs.Finds.{got_none, got_left}
use Rattle.storages.specs.Slot.{Slot, Becomes, IsSame}
use Rattle.joins.specs.Keys.{keys_of}
use Rattle.joins.specs.Over.{IsOver}
use Rattle.joins.specs.Same.{left_same}
use Rattle.joins.proofs.CursorLemmas.{contains_keys}

-- an index that was passed lies in a part that was passed, in each layer
pub passed : (p : ℕ → ℕ → Bool) (c : ℕ) (w : Walk) → IsWalkOf p c w → (k : ℕ) → k < position w → (l : ℕ) → l < LAYERS → k / 64 ^ l < slice_index (from_of w) l
passed p c w h k lt zero le = let one : k / 1 ≡ k = div-one k in omega (arith, lt, one)
passed p c w h k lt (suc l) le =
    let down = passed p c w h k lt l (omega (arith, le)) in
    let v = (h.walk.level l (omega (arith, le))).below in
    let up = up_part k l in
    let e : suc l ≡ l + 1 = omega arith in
    let at : k / 64 ^ l / 64 < slice_index (from_of w) (suc l) = omega (arith, down, v) in
    rw (e, sym up) at

module _ {T : Type 0} (m n : map.FinMap nat_cmp T) (q : ℕ → ℕ → Bool) (w : Walk) (k : ℕ) (lt : k < position w) (same : (x : ℕ) → x ≢ k → map.contains_key n x ≡ map.contains_key m x) (gone : map.contains_key n k ≡ false) where
  fewer_keys : (x : ℕ) → map.contains_key n x ≡ true → map.contains_key m x ≡ true
  fewer_keys x e = elim (cases_eq x k) [ inl here ↦ cc | inr other ↦ sym (same x other) ∙ e ]

  fewer_parts : (l i : ℕ) → has_part (keys_of n) l i ≡ true → has_part (keys_of m) l i ≡ true
  fewer_parts l i e =
      let a = part_member (keys_of n) l i e in
      ap (has_part (keys_of m) l) (sym a.2) ∙ member_part (keys_of m) l a.0 (contains_keys m a.0 ∙ fewer_keys a.0 (sym (contains_keys n a.0) ∙ a.1))

  parts_stay : IsWalkOf (λ l i. has_part (keys_of m) l i && q l i) 0 w → (l i : ℕ) → l < LAYERS → slice_index (from_of w) l ≤ i → has_part (keys_of m) l i ≡ true → has_part (keys_of n) l i ≡ true
  parts_stay h l i ll ge e =
      let a = part_member (keys_of m) l i e in
      let below = passed _ _ w h k lt l ll in
      let other : a.0 ≢ k = λ x. let b : k / 64 ^ l ≡ i = ap (λ y. y / 64 ^ l) (sym x) ∙ a.2 in omega (arith, below, ge, b) in
      ap (has_part (keys_of n) l) (sym a.2) ∙ member_part (keys_of n) l a.0 (contains_keys n a.0 ∙ same a.0 other ∙ sym (contains_keys m a.0) ∙ a.1)

  and_true : (a b : Bool) → a ≡ true → b ≡ true → (a && b) ≡ true
  and_true true b e f = f
  and_true false b e f = e

  -- a walk over the keys goes on where a key that it passed is gone
  walk_without : IsOver (λ l i. has_part (keys_of m) l i && q l i) w → IsOver (λ l i. has_part (keys_of n) l i && q l i) w
  unfolding IsOver
  walk_without h =
      goes_on _ _ w
      (λ l i e. let b = and_parts _ _ e in and_true _ _ (fewer_parts l i b.0) b.1)
      (λ l i ll ge e. let b = and_parts _ _ e in and_true _ _ (parts_stay h l i ll ge b.0) b.1)
      h

  -- and leaves the same indices
  pub rest_without : (r : ℕ → Bool) → left (λ i. map.contains_key n i && r i) (position w) ≡ left (λ i. map.contains_key m i && r i) (position w)
  rest_without r = left_same _ _ (position w) (λ i ge _. ap (λ b. b && r i) (same i (λ e. omega (arith, e, lt, ge))))

module _ {T : Type 0} (s s' : Slot T) (k : ℕ) where
  -- after a removal that may find nothing, or be refused: the index is gone, or the map is as it was
  pub gone_or_same : {E : Type 0} (r : Result (Option T) E) → IfOk r (λ x. x ≡ map.get s.map k) → IfOk r (λ x. IsSome x → Becomes s s' (map.remove s.map k) (Removed k)) → (map.get s.map k ≡ None → (r ≡ Ok None) × (s' ≡ s)) → OnErr r (IsSame s s') → (s'.map ≡ map.remove s.map k) ⊎ (s'.map ≡ s.map)
  gone_or_same (Ok None) value removed absent err = inr (ap (λ (t : Slot T). t.map) (absent (sym value)).1)
  gone_or_same (Ok (Some x)) value removed absent err = inl (removed refl).map
  gone_or_same (Err e) value removed absent err = inr err.map

module _ {T : Type 0} (m n : map.FinMap nat_cmp T) (k : ℕ) (either : (n ≡ map.remove m k) ⊎ (n ≡ m)) (w : Walk) (lt : k < position w) where
  others_stay : n ≡ map.remove m k → (x : ℕ) → x ≢ k → map.contains_key n x ≡ map.contains_key m x
  others_stay e x ne = ap is_some (got_left m n k x ne e)

  pub walk_after : (q : ℕ → ℕ → Bool) → IsOver (λ l i. has_part (keys_of m) l i && q l i) w → IsOver (λ l i. has_part (keys_of n) l i && q l i) w
  walk_after q h =
      elim either [
        | inl e ↦ walk_without m n q w k lt (others_stay e) (ap is_some (got_none m n k e)) h
        | inr e ↦ rw e h
      ]

  pub rest_after : (r : ℕ → Bool) → left (λ i. map.contains_key n i && r i) (position w) ≡ left (λ i. map.contains_key m i && r i) (position w)
  rest_after r =
      elim either [
        | inl e ↦ rest_without m n (λ _ _. true) w k lt (others_stay e) (ap is_some (got_none m n k e)) r
        | inr e ↦ rw e refl
      ]
