-- On components that are changed in their places.
use Rattle.std.proofs.Common.{◌≡◌, ℕ, ◌+◌, ◌-◌, ◌*◌, ◌/◌, ◌%◌, ◌^◌, ◌<◌, ◌≤◌, ◌++◌, ◌==◌, get_or, replicate, length-append, length-take, Bool, true, false, cond, List, [], ◌∷◌, length, take, drop, Some, None, zero, suc, refl, sym, ◌∙◌, arith, inl, inr, ap, slice_get, slice_index_or, is_some}
use Rattle.std.specs.Prelude.{Option, IsSome, ◌&&◌}
use Rattle.std.proofs.Math.Seq.{take-length}
use Rattle.std.specs.FinMap as map
use Rattle.std.proofs.lemmas.Bool.{cases_lt, true≢false}
use Rattle.std.specs.Borrow.{MutBor}
use Rattle.std.specs.Int.{bit_at}
use Rattle.std.proofs.lemmas.Nat.Bits.{bit_at-zero}
use Rattle.std.proofs.lemmas.List.{get_or_past, take_all, length-replicate}
use Rattle.std.proofs.lemmas.Grind.{common_steps}
use Rattle.hibits.specs.declared.limits.TheConstants.{LAYERS, INDEX_LIMIT}
use Rattle.hibits.specs.Rows.{row_bit}
use Rattle.std.specs.List.{Contains}
use Rattle.hibits.specs.Left.{left, left-contains}
use Rattle.hibits.specs.Words.{IsNextWord, words_from, words_none}
use Rattle.storages.specs.Slot.{Slot}
use Rattle.storages.specs.SliceLends.{left_as, with_slice}
use Rattle.joins_parallel.specs.InPlace.{MayLeave, ChangedAt, OnlyChanges}
use Rattle.joins_parallel.proofs.Replacing.{some_of_key, both_right}

-- the same call, of values that are equal
pub same_call : {T I : Type 0} (gives : ℕ → I → Type 0) (leaves : MutBor T → I → Unit {0} → MutBor T → Type 0) (i : ℕ) (x x' y y' : T)
    → x ≡ x' → y ≡ y' → MayLeave gives leaves i x y → MayLeave gives leaves i x' y'
same_call gives leaves i x x' y y' e f m = record {
  component = m.component;
  component_is = m.component_is ∙ e;
  item = m.item;
  beside = m.beside;
  after_call = m.after_call;
  call = m.call;
  left = m.left ∙ f;
}

-- the words that a walk has passed stand at their places, and nothing behind them
pub record IsRow (ws : List ℕ) (has : ℕ → Bool) (from : ℕ) : Type 0 where
  pub past : (i : ℕ) → i < 64 * from → row_bit ws i ≡ has i
  pub short : length ws ≤ from
  pub limit : 64 * from ≤ INDEX_LIMIT

not_true : (b : Bool) → (b ≡ true → ⊥) → b ≡ false
not_true true n = absurd (n refl)
not_true false n = refl

-- past the end no bit is set
past_end : (ws : List ℕ) (i : ℕ) → length ws ≤ i / 64 → row_bit ws i ≡ false
past_end ws i le = ap (λ (w : ℕ). bit_at w (i % 64) == 1) (get_or_past ws (i / 64) 0 le) ∙ ap (λ (n : ℕ). n == 1) (bit_at-zero (i % 64))

one_if : (b : Bool) → (cond b 1 0 == 1) ≡ b
one_if true = refl
one_if false = refl

-- where there is no member there is no word
pub no_words : (p : ℕ → Bool) (from : ℕ) {r : ℕ × ℕ} {rest : List (ℕ × ℕ)} → left p 0 ≡ [] → words_from p from ≡ r ∷ rest → ⊥
no_words p from none e =
    let nothing = words_none p from (λ i ge lt is. let held : Contains (left p 0) i = left-contains p 0 i (omega arith) lt is in let h = rw none at held in let k = h.1 in omega (arith, k)) in
    let not : _ ∷ _ ≡ [] = sym e ∙ nothing in
    cc

pub no_row : (has : ℕ → Bool) (from : ℕ) (ws : List ℕ) → from ≡ 0 → ws ≡ [] → IsRow ws has from
no_row has from ws e none = record { past = λ i lt. absurd (omega (arith, lt, e)); short = let l = ap length none in omega (arith, l); limit = omega (arith, e) }

module _ (ws : List ℕ) (has : ℕ → Bool) (from : ℕ) (w : IsRow ws has from) where
  pub row_all : ((i : ℕ) → 64 * from ≤ i → i < INDEX_LIMIT → has i ≡ true → ⊥) → (i : ℕ) → i < INDEX_LIMIT → row_bit ws i ≡ has i
  row_all none i lt =
      elim (cases_lt i (64 * from)) [
        | inl before ↦ w.past i before
        | inr after ↦ past_end ws i (let s = w.short in omega (arith, after, s)) ∙ sym (not_true (has i) (none i after lt))
      ]

  pub row_below : (i : ℕ) → row_bit ws i ≡ true → i < INDEX_LIMIT
  row_below i is =
      elim (cases_lt i (64 * from)) [
        | inl before ↦ let l = w.limit in omega (arith, before, l)
        | inr after ↦ absurd (true≢false (sym is ∙ past_end ws i (let s = w.short in omega (arith, after, s))))
      ]

  -- the row behind zeros up to a place, with a word there
  module _ (place word gap : ℕ) (next : IsNextWord has from place word) (below : place < 64 ^ (LAYERS - 1)) (gap_is : gap ≡ place - length ws) where
    abbrev pub zeros : List ℕ
    zeros = replicate gap 0

    abbrev pub row : List ℕ
    row = (take place ws ++ zeros) ++ word ∷ []

    long : length (take place ws ++ zeros) ≡ place
    long = let l = length-append (take place ws) zeros in let t = length-take place ws in let z = length-replicate {A = ℕ} gap 0 in let g = gap_is in let s = w.short in let f = next.from_on in omega (arith, l, t, z, g, s, f)

    whole : take place ws ≡ ws
    whole = let s = w.short in let f = next.from_on in take_all place ws (omega (arith, s, f))

    at_old : (k : ℕ) → k < place → get_or row k 0 ≡ get_or ws k 0
    at_old k lt = let l = long in let e = whole in let s = w.short in let g = gap_is in grind (arith, common_steps)

    at_new : get_or row place 0 ≡ word
    at_new = let l = long in grind (arith, common_steps)

    -- no member lies between the words that were passed and this one
    up_to : (i : ℕ) → i < 64 * place → row_bit ws i ≡ has i
    up_to i lt =
        elim (cases_lt i (64 * from)) [
          | inl before ↦ w.past i before
          | inr after ↦ past_end ws i (let s = w.short in omega (arith, after, s)) ∙ sym (not_true (has i) (next.none i after lt))
        ]

    pub row_more : IsRow row has (place + 1)
    row_more = record {
      past = λ i lt.
          elim (cases_lt i (64 * place)) [
            | inl before ↦ ap (λ (n : ℕ). bit_at n (i % 64) == 1) (at_old (i / 64) (omega (arith, before))) ∙ up_to i before
            | inr here ↦
                let same : i / 64 ≡ place = omega (arith, lt, here) in
                let sum : 64 * place + i % 64 ≡ i = omega (arith, lt, here) in
                ap (λ (k : ℕ). bit_at (get_or row k 0) (i % 64) == 1) same ∙ ap (λ (n : ℕ). bit_at n (i % 64) == 1) at_new
                ∙ ap (λ (b : ℕ). b == 1) (next.is_word.bits (i % 64) (omega arith)) ∙ one_if (has (64 * place + i % 64)) ∙ ap has sum
          ];
      short = let l = length-append (take place ws ++ zeros) (word ∷ []) in let e = long in omega (arith, l, e);
      limit = omega (arith, below);
    }

-- what stands at a place of a slice, once what was left there is in it
pub left_at : {T : Type 0} (xs ys : List T) (i : ℕ) (x : T) → slice_get xs i ≡ Some x → slice_get (take (length xs) (ys ++ drop (length ys) xs)) i ≡ Some (slice_index_or ys i x)
left_at [] ys i x e = cc
left_at (a ∷ xs) [] zero x e = e
left_at (a ∷ xs) [] (suc i) x e = ap (λ zs. slice_get zs i) (take-length xs) ∙ e
left_at (a ∷ xs) (y ∷ ys) zero x e = refl
left_at (a ∷ xs) (y ∷ ys) (suc i) x e = left_at xs ys i x e

-- what stands at a place is what an index with any default gives
pub got_at : {T : Type 0} (xs : List T) (i : ℕ) (x : T) → slice_get xs i ≡ Some x → (i < length xs) × ((d : T) → slice_index_or xs i d ≡ x)
got_at [] i x e = cc
got_at (a ∷ xs) zero x e = (omega arith, λ d. cc)
got_at (a ∷ xs) (suc i) x e = let r = got_at xs i x e in let lt = r.0 in (omega (arith, lt), r.1)

some_is : {T : Type 0} (o : Option T) → is_some o ≡ true → (x : T) × (o ≡ Some x)
some_is None h = cc
some_is (Some x) h = (x, refl)

-- A storage whose components are the places of a slice.
module _ {T : Type 0} (item_at : List ℕ → List T → ℕ → Option T) (s : Slot T) (xs : List T)
    (by_index : (order : List ℕ) (zs : List T) (q : ℕ) → item_at order zs q ≡ slice_get zs q)
    (places : (q : ℕ) → IsSome (map.get s.map q) → item_at s.order xs q ≡ map.get s.map q) where
  -- the slice has each component
  pub was_there : (q : ℕ) (x : T) → map.get s.map q ≡ Some x → slice_get xs q ≡ Some x
  was_there q x e = sym (by_index s.order xs q) ∙ places q (some_of_key s.map q (ap is_some e)) ∙ e

  -- what the slice has at the index of a component is the component
  pub is_component : (q : ℕ) (x : T) → map.contains_key s.map q ≡ true → x ≡ slice_index_or xs q x → map.get s.map q ≡ Some x
  is_component q x has e =
      let o = some_is (map.get s.map q) has in
      let g = got_at xs q o.0 (was_there q o.0 o.1) in
      o.1 ∙ ap Some (sym (e ∙ g.1 x))

-- The same, where some were changed: `both` tells which.
module _ {T : Type 0} (item_at : List ℕ → List T → ℕ → Option T) (s : Slot T) (xs ys : List T) (both : ℕ → Bool)
    (by_index : (order : List ℕ) (zs : List T) (q : ℕ) → item_at order zs q ≡ slice_get zs q)
    (places : (q : ℕ) → IsSome (map.get s.map q) → item_at s.order xs q ≡ map.get s.map q)
    (each : (zs : List T) (q : ℕ) → map.get (with_slice item_at s zs).map q ≡ cond (map.contains_key s.map q) (item_at s.order zs q) None)
    (others : (q : ℕ) (d : T) → q < length xs → both q ≡ false → slice_index_or ys q d ≡ slice_index_or xs q d) where
  -- the slot with what was left in the slice
  abbrev after : Slot T
  after = with_slice item_at s (left_as xs ys)

  -- a component is what was left at its place
  pub is_there : (q : ℕ) (x : T) → map.get s.map q ≡ Some x → map.get after.map q ≡ Some (slice_index_or ys q x)
  is_there q x e =
      each (left_as xs ys) q ∙ ap (λ (o : Option T). cond (is_some o) (item_at s.order (left_as xs ys) q) None) e ∙ by_index s.order (left_as xs ys) q ∙ left_at xs ys q x (was_there item_at s xs by_index places q x e)

  not_there : (q : ℕ) → map.get s.map q ≡ None → map.get after.map q ≡ None
  not_there q e = each (left_as xs ys) q ∙ ap (λ (o : Option T). cond (is_some o) (item_at s.order (left_as xs ys) q) None) e

  kept_by : (q : ℕ) (o : Option T) → map.get s.map q ≡ o → both q ≡ false → map.get after.map q ≡ o
  kept_by q None e out = not_there q e
  kept_by q (Some x) e out = let g = got_at xs q x (was_there item_at s xs by_index places q x e) in is_there q x e ∙ ap Some (others q x g.0 out ∙ g.1 x)

  -- what is not one of those to be changed stays
  pub stays : (q : ℕ) → both q ≡ false → map.get after.map q ≡ map.get s.map q
  stays q out = kept_by q (map.get s.map q) refl out

  key_by : (q : ℕ) (o : Option T) → map.get s.map q ≡ o → is_some (map.get after.map q) ≡ is_some o
  key_by q None e = ap is_some (not_there q e)
  key_by q (Some x) e = ap is_some (is_there q x e)

  pub only_changes : OnlyChanges s after
  only_changes = record { keys = λ q. key_by q (map.get s.map q) refl; extent = refl; order = refl; channel = refl; room = refl; inner_room = refl }

  module _ {I : Type 0} (finds gives : ℕ → I → Type 0) (leaves : MutBor T → I → Unit {0} → MutBor T → Type 0) (same : (i : ℕ) (z : I) → finds i z → gives i z)
      (changed : (q : ℕ) (d : T) → q < length xs → both q ≡ true → MayLeave finds leaves q (slice_index_or xs q d) (slice_index_or ys q d)) where
    changed_by : (q : ℕ) (o : Option T) → map.get s.map q ≡ o → is_some o ≡ true → both q ≡ true → ChangedAt gives leaves s after q
    changed_by q None e has is = absurd (true≢false (sym has))
    changed_by q (Some x) e has is =
        let g = got_at xs q x (was_there item_at s xs by_index places q x e) in let m = changed q x g.0 is in
        record {
          component = x;
          now = slice_index_or ys q x;
          was = e;
          made = record { component = m.component; component_is = m.component_is ∙ g.1 x; item = m.item; beside = same q m.item m.beside; after_call = m.after_call; call = m.call; left = m.left };
          becomes = is_there q x e;
        }

    pub is_changed : (q : ℕ) → map.contains_key s.map q ≡ true → both q ≡ true → ChangedAt gives leaves s after q
    is_changed q has is = changed_by q (map.get s.map q) refl has is

pub both_of : (a b : Bool) → a ≡ true → b ≡ true → (a && b) ≡ true
both_of true b e f = f
both_of false b e f = cc

-- what is not in one of two is not in both
pub not_both : (both : Bool) (a b : Bool) → (both ≡ true → both ≡ (a && b)) → b ≡ false → both ≡ false
not_both true a b tie out = absurd (true≢false (sym (both_right a b (sym (tie refl))) ∙ out))
not_both false a b tie out = refl
