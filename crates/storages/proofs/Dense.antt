-- On dense tables.
use Rattle.std.proofs.Common.{◌≡◌, ◌≢◌, ℕ, ◌+◌, ◌-◌, ◌*◌, ◌/◌, ◌<◌, ◌≤◌, true, false, ◌||◌, nat_eq, nat_lt, cond, List, [], ◌∷◌, ◌++◌, length, get_or, refl, ap, sym, ◌∙◌, subst, zero, suc, arith, Some, None, is_some, ◌⊎◌, inl, inr}
use Rattle.std.specs.Prelude.{Option}
use Rattle.std.specs.List.{slice_get, slice_set, swap_remove}
use Rattle.std.specs.Option.{is_none}
use Rattle.std.proofs.lemmas.Grind.{common_steps}
use Rattle.std.proofs.lemmas.Bool.Decides.{nat_tests}
use Rattle.std.proofs.lemmas.Bool.{false≢true, or_right, cases_lt}
use Rattle.std.proofs.lemmas.List.{length-set}
use Rattle.std.proofs.lemmas.Option.{gets, get_or_from_slice_get, slice_get_within, slice_get-get_or}
use Rattle.std.specs.Ordering.{nat_cmp}
use Rattle.std.specs.Cmp.{nat_cmp_total, unsigned_tied}
use Rattle.std.specs.FinSet as set
use Rattle.pages.specs.Paged.{Paged, HasPage}
use Rattle.std.proofs.Math.Nat.{suc-mul}
use Rattle.std.proofs.lemmas.Nat.{mod_below, div-add-mod'}
use Rattle.storages.specs.Dense.{has_there, value_there, value_of, IsConsistent, ArePaged, meaning_of}
use Rattle.storages.specs.Meaning.{Touches, Puts, Frees, Shows, OrderAfter, extent_after}
use Rattle.storages.specs.Slices.{Arranges}
use Rattle.storages.specs.declared.event.ComponentEvent.{ComponentEvent}
use Rattle.storages.specs.declared.event.ComponentEvent.TheVariants.{Inserted, Removed}
use Rattle.storages.proofs.Indices.{itself, same_id, same_or}

-- what a list has at a place, after a push, a write and a cut
pub get-push_last : {X : Type 0} (xs : List X) (x : X) → slice_get (xs ++ x ∷ []) (length xs) ≡ Some x
get-push_last xs x = grind (arith, common_steps, gets)

pub get-push_other : {X : Type 0} (xs : List X) (x : X) (k : ℕ) → k ≢ length xs → slice_get (xs ++ x ∷ []) k ≡ slice_get xs k
get-push_other xs x k n = grind (arith, common_steps, gets)

-- a list that is written to is as long as it was
pub within-set : (xs ys : List ℕ) (i x n : ℕ) → ys ≡ slice_set xs i x → length xs ≤ n → length ys ≤ n
within-set xs ys i x n is le = let e = ap length is ∙ length-set xs i x in omega (arith, e, le)

pub get-set_same : {X : Type 0} (xs : List X) (i : ℕ) (x : X) → i < length xs → slice_get (slice_set xs i x) i ≡ Some x
get-set_same xs i x h = grind (arith, common_steps, gets)

pub get-set_other : {X : Type 0} (xs : List X) (i : ℕ) (x : X) (k : ℕ) → k ≢ i → slice_get (slice_set xs i x) k ≡ slice_get xs k
get-set_other xs i x k n = grind (arith, common_steps, gets)

pub get-swap_remove_at : {X : Type 0} (xs : List X) (i : ℕ) (d : X) (l : ℕ) → length xs ≡ l + 1 → i < l → slice_get (swap_remove xs i d) i ≡ slice_get xs l
get-swap_remove_at xs i d l e h = grind (arith, common_steps, gets)

pub get-swap_remove_other : {X : Type 0} (xs : List X) (i : ℕ) (d : X) (k l : ℕ) → length xs ≡ l + 1 → i < length xs → k < l → k ≢ i → slice_get (swap_remove xs i d) k ≡ slice_get xs k
get-swap_remove_other xs i d k l e h b n = grind (arith, common_steps, gets)

pub get-swap_remove_past : {X : Type 0} (xs : List X) (i : ℕ) (d : X) (k l : ℕ) → length xs ≡ l + 1 → i < length xs → l ≤ k → slice_get (swap_remove xs i d) k ≡ None
get-swap_remove_past xs i d k l e h b = grind (arith, common_steps, gets)

pub some_inj : {X : Type 0} (o : Option X) (x y : X) → o ≡ Some x → o ≡ Some y → x ≡ y
some_inj o x y p q = cc

not_both : {X : Type 0} (o : Option X) (x : X) → o ≡ Some x → o ≡ None → ⊥
not_both o x p q = cc

-- an id stands at one place at most
pub one_place : (n : ℕ) (ids places : List ℕ) → IsConsistent n ids places → (j k i : ℕ) → slice_get ids j ≡ Some i → slice_get ids k ≡ Some i → j ≡ k
one_place n ids places C j k i p q = some_inj (slice_get places i) j k (C.placed j i p) (C.placed k i q)

-- the place of an id that is there, or that it is nowhere
abbrev pub IsAt : List ℕ → ℕ → Type 0
IsAt ids q = (k : ℕ) × (slice_get ids k ≡ Some q)

module _ (n : ℕ) (ids places : List ℕ) (C : IsConsistent n ids places) where
  found_at : (q p : ℕ) → slice_get places q ≡ Some p → (o : Option ℕ) → slice_get ids p ≡ o → IsAt ids q ⊎ (IsAt ids q → ⊥)
  found_at q p e None f = inr (λ k. not_both (slice_get ids p) q (ap (slice_get ids) (some_inj (slice_get places q) p k.0 e (C.placed k.0 q k.1)) ∙ k.1) f)
  found_at q p e (Some i) f = elim (same_or i q) [
    | inl s ↦ inl (p, f ∙ ap Some s)
    | inr s ↦ inr (λ k. s (some_inj (slice_get ids p) i q f (ap (slice_get ids) (some_inj (slice_get places q) p k.0 e (C.placed k.0 q k.1)) ∙ k.1)))
  ]

  found_by : (q : ℕ) (o : Option ℕ) → slice_get places q ≡ o → IsAt ids q ⊎ (IsAt ids q → ⊥)
  found_by q None e = inr (λ k. not_both (slice_get places q) k.0 (C.placed k.0 q k.1) e)
  found_by q (Some p) e = found_at q p e (slice_get ids p) refl

  pub found : (q : ℕ) → IsAt ids q ⊎ (IsAt ids q → ⊥)
  found q = found_by q (slice_get places q) refl

  module _ {T : Type 0} (values : List T) where
    pub value-present : (k q : ℕ) → slice_get ids k ≡ Some q → value_of values ids places q ≡ slice_get values k
    value-present k q e =
        ap (value_there values ids q) (C.placed k q e)
        ∙ ap (λ o. cond (has_there o q) (slice_get values k) None) e
        ∙ ap (λ b. cond b (slice_get values k) None) (itself q)

    at_place : (q p : ℕ) (o : Option ℕ) → slice_get ids p ≡ o → (IsAt ids q → ⊥) → cond (has_there o q) (slice_get values p) None ≡ None
    at_place q p None e n = refl
    at_place q p (Some i) e n = elim (nat_eq i q) as (λ b. nat_eq i q ≡ b → cond b (slice_get values p) None ≡ None) [
      | true ↦ λ h. absurd (n (p, e ∙ ap Some (same_id i q h)))
      | false ↦ λ h. refl
    ] refl

    by_place : (q : ℕ) (o : Option ℕ) → (IsAt ids q → ⊥) → value_there values ids q o ≡ None
    by_place q None n = refl
    by_place q (Some p) n = at_place q p (slice_get ids p) refl n

    pub value-absent : (q : ℕ) → (IsAt ids q → ⊥) → value_of values ids places q ≡ None
    value-absent q n = by_place q (slice_get places q) n

    -- an id with a value is at some place
    pub at_of_value : length values ≡ n → (q : ℕ) → is_some (value_of values ids places q) ≡ true → IsAt ids q
    at_of_value len q h = elim (found q) [
      | inl k ↦ k
      | inr m ↦ absurd (false≢true (sym (ap is_some (value-absent q m)) ∙ h))
    ]

-- a call that changes the value of one id alone
touches-one : {T : Type 0} (values values' : List T) (ids ids' places places' : List ℕ) (id : ℕ) (e : ComponentEvent) → None ≡ extent_after e None → OrderAfter e ids ids'
    → ((q : ℕ) → q ≢ id → value_of values' ids' places' q ≡ value_of values ids places q) → Touches (meaning_of values ids places) (meaning_of values' ids' places') id e
touches-one values values' ids ids' places places' id e extent order others = record {
  others = λ q ne _. others q ne;
  free = λ q ne f. ap is_none (others q ne) ∙ f;
  extent = extent;
  order = order;
  channel = refl;
  needs_room = refl;
  room = λ k h. tt;
  needs_inner = refl;
  inner_room = λ k h. tt;
}

-- after an insertion
module _ (n : ℕ) (ids places places' : List ℕ) (C : IsConsistent n ids places) (id : ℕ) (absent : IsAt ids id → ⊥) (there : slice_get places' id ≡ Some n)
    (keep : (q k : ℕ) → q ≢ id → slice_get places q ≡ Some k → slice_get places' q ≡ Some k) where
  placed_pushed : (k i : ℕ) → (k ≡ length ids) ⊎ (k ≢ length ids) → slice_get (ids ++ id ∷ []) k ≡ Some i → slice_get places' i ≡ Some k
  placed_pushed k i (inl e) h =
      let same : id ≡ i = some_inj (slice_get (ids ++ id ∷ []) k) id i (ap (slice_get (ids ++ id ∷ [])) e ∙ get-push_last ids id) h in
      ap (slice_get places') (sym same) ∙ there ∙ ap Some (sym (e ∙ C.lengths))
  placed_pushed k i (inr e) h =
      let old : slice_get ids k ≡ Some i = sym (get-push_other ids id k e) ∙ h in
      keep i k (λ s. absent (k, old ∙ ap Some s)) (C.placed k i old)

  pub consistent-pushed : IsConsistent (n + 1) (ids ++ id ∷ []) places'
  consistent-pushed = record {
    lengths = grind (arith, common_steps, C.lengths);
    placed = λ k i. placed_pushed k i (same_or k (length ids));
  }

  module _ {T : Type 0} (values : List T) (x : T) (len : length values ≡ n) where
    pub put-pushed : value_of (values ++ x ∷ []) (ids ++ id ∷ []) places' id ≡ Some x
    put-pushed =
        value-present (n + 1) (ids ++ id ∷ []) places' consistent-pushed (values ++ x ∷ []) (length ids) id (get-push_last ids id)
        ∙ ap (slice_get (values ++ x ∷ [])) (C.lengths ∙ sym len) ∙ get-push_last values x

    within : (k q : ℕ) → slice_get ids k ≡ Some q → k < length ids
    within k q e = slice_get_within ids k q e

    not_last : (k q : ℕ) → slice_get ids k ≡ Some q → k ≢ length ids
    not_last k q e s = let b = within k q e in omega arith

    not_end : (k q : ℕ) → slice_get ids k ≡ Some q → k ≢ length values
    not_end k q e s = let b = within k q e in let c = C.lengths in omega arith

    other_pushed : (q : ℕ) → q ≢ id → IsAt ids q ⊎ (IsAt ids q → ⊥) → value_of (values ++ x ∷ []) (ids ++ id ∷ []) places' q ≡ value_of values ids places q
    other_pushed q ne (inl k) =
        value-present (n + 1) (ids ++ id ∷ []) places' consistent-pushed (values ++ x ∷ []) k.0 q (get-push_other ids id k.0 (not_last k.0 q k.1) ∙ k.1)
        ∙ get-push_other values x k.0 (not_end k.0 q k.1)
        ∙ sym (value-present n ids places C values k.0 q k.1)
    other_pushed q ne (inr m) =
        value-absent (n + 1) (ids ++ id ∷ []) places' consistent-pushed (values ++ x ∷ []) q (λ k. nowhere k.0 (same_or k.0 (length ids)) k.1)
        ∙ sym (value-absent n ids places C values q m)
      where
        nowhere : (k : ℕ) → (k ≡ length ids) ⊎ (k ≢ length ids) → slice_get (ids ++ id ∷ []) k ≡ Some q → ⊥
        nowhere k (inl e) h = ne (sym (some_inj (slice_get (ids ++ id ∷ []) k) id q (ap (slice_get (ids ++ id ∷ [])) e ∙ get-push_last ids id) h))
        nowhere k (inr e) h = m (k, sym (get-push_other ids id k e) ∙ h)

    pub puts-pushed : Puts (meaning_of values ids places) (meaning_of (values ++ x ∷ []) (ids ++ id ∷ []) places') id x (Inserted id)
    puts-pushed = record {
      touches = touches-one values (values ++ x ∷ []) ids (ids ++ id ∷ []) places places' id (Inserted id) refl tt (λ q ne. other_pushed q ne (found n ids places C q));
      put = put-pushed;
    }

-- after a removal, of the id at place p, where l is the last place
module _ (n l : ℕ) (ids places : List ℕ) (C : IsConsistent n ids places) (id p last d : ℕ) (size : n ≡ l + 1)
    (at : slice_get ids p ≡ Some id) (at_last : slice_get ids l ≡ Some last) where
  size_ids : length ids ≡ l + 1
  size_ids = C.lengths ∙ size

  p_in : p < length ids
  p_in = slice_get_within ids p id at

  last_in : last < length places
  last_in = slice_get_within places last l (C.placed l last at_last)

  one : (j k i : ℕ) → slice_get ids j ≡ Some i → slice_get ids k ≡ Some i → j ≡ k
  one = one_place n ids places C

  -- a place of the shorter table: it has the last id at p, and what it had elsewhere
  shorter : (k i : ℕ) → slice_get (swap_remove ids p d) k ≡ Some i → (k < l) × ((k ≡ p) × (i ≡ last) ⊎ (k ≢ p) × (slice_get ids k ≡ Some i))
  shorter k i h = by_bound (lt_or k l)
    where
      lt_or : (a b : ℕ) → (a < b) ⊎ (b ≤ a)
      lt_or a b = elim (nat_lt a b) as (λ r. nat_lt a b ≡ r → (a < b) ⊎ (b ≤ a)) [ true ↦ λ e. inl (grind (arith, nat_tests)) | false ↦ λ e. inr (grind (arith, nat_tests)) ] refl

      by_place : k < l → (k ≡ p) ⊎ (k ≢ p) → (k < l) × ((k ≡ p) × (i ≡ last) ⊎ (k ≢ p) × (slice_get ids k ≡ Some i))
      by_place b (inl e) =
          let q : p < l = omega (arith, e) in
          (b, inl (e, some_inj (slice_get ids l) i last (sym (get-swap_remove_at ids p d l size_ids q) ∙ sym (ap (slice_get (swap_remove ids p d)) e) ∙ h) at_last))
      by_place b (inr e) = (b, inr (e, sym (get-swap_remove_other ids p d k l size_ids p_in b e) ∙ h))

      by_bound : (k < l) ⊎ (l ≤ k) → (k < l) × ((k ≡ p) × (i ≡ last) ⊎ (k ≢ p) × (slice_get ids k ≡ Some i))
      by_bound (inl b) = by_place b (same_or k p)
      by_bound (inr b) = absurd (not_both (slice_get (swap_remove ids p d) k) i h (get-swap_remove_past ids p d k l size_ids p_in b))

  placed_shorter : (k i : ℕ) → (k < l) × ((k ≡ p) × (i ≡ last) ⊎ (k ≢ p) × (slice_get ids k ≡ Some i)) → slice_get (slice_set places last p) i ≡ Some k
  placed_shorter k i (b, inl (e, s)) = ap (slice_get (slice_set places last p)) s ∙ get-set_same places last p last_in ∙ ap Some (sym e)
  placed_shorter k i (b, inr (e, s)) =
      get-set_other places last p i (λ t. not_l (one k l i s (at_last ∙ ap Some (sym t)))) ∙ C.placed k i s
    where
      not_l : k ≡ l → ⊥
      not_l t = omega arith

  pub consistent-removed : IsConsistent l (swap_remove ids p d) (slice_set places last p)
  consistent-removed = record { lengths = grind (arith, common_steps, size_ids, p_in); placed = λ k i h. placed_shorter k i (shorter k i h) }

  module _ {T : Type 0} (values : List T) (x : T) (len : length values ≡ n) where
    size_values : length values ≡ l + 1
    size_values = len ∙ size

    p_value : p < length values
    p_value = let a = p_in in let b = size_ids in let c = size_values in omega arith

    present' : (k q : ℕ) → slice_get (swap_remove ids p d) k ≡ Some q → value_of (swap_remove values p x) (swap_remove ids p d) (slice_set places last p) q ≡ slice_get (swap_remove values p x) k
    present' = value-present l (swap_remove ids p d) (slice_set places last p) consistent-removed (swap_remove values p x)

    absent' : (q : ℕ) → (IsAt (swap_remove ids p d) q → ⊥) → value_of (swap_remove values p x) (swap_remove ids p d) (slice_set places last p) q ≡ None
    absent' = value-absent l (swap_remove ids p d) (slice_set places last p) consistent-removed (swap_remove values p x)

    pub freed-removed : value_of (swap_remove values p x) (swap_remove ids p d) (slice_set places last p) id ≡ None
    freed-removed = absent' id (λ k. gone k.0 (shorter k.0 id k.1))
      where
        gone : (k : ℕ) → (k < l) × ((k ≡ p) × (id ≡ last) ⊎ (k ≢ p) × (slice_get ids k ≡ Some id)) → ⊥
        gone k (b, inl (e, s)) = let t = one p l id at (at_last ∙ ap Some (sym s)) in omega arith
        gone k (b, inr (e, s)) = e (one k p id s at)

    moved : (q k : ℕ) → q ≢ id → slice_get ids k ≡ Some q → (k ≡ l) ⊎ (k ≢ l) → value_of (swap_remove values p x) (swap_remove ids p d) (slice_set places last p) q ≡ slice_get values k
    moved q k ne s (inl e) =
        let same : q ≡ last = some_inj (slice_get ids k) q last s (ap (slice_get ids) e ∙ at_last) in
        let p_l : p ≢ l = (λ t. ne (some_inj (slice_get ids p) q id (ap (slice_get ids) (t ∙ sym e) ∙ s) at)) in
        let b : p < l = (let a = p_in in let c = size_ids in omega arith) in
        present' p q (get-swap_remove_at ids p d l size_ids b ∙ at_last ∙ ap Some (sym same)) ∙ get-swap_remove_at values p x l size_values b ∙ sym (ap (slice_get values) e)
    moved q k ne s (inr e) =
        let k_in : k < length ids = slice_get_within ids k q s in
        let b : k < l = (let c = size_ids in omega arith) in
        let k_p : k ≢ p = (λ t. ne (some_inj (slice_get ids k) q id s (ap (slice_get ids) t ∙ at))) in
        present' k q (get-swap_remove_other ids p d k l size_ids p_in b k_p ∙ s) ∙ get-swap_remove_other values p x k l size_values p_value b k_p

    other_removed : (q : ℕ) → q ≢ id → IsAt ids q ⊎ (IsAt ids q → ⊥) → value_of (swap_remove values p x) (swap_remove ids p d) (slice_set places last p) q ≡ value_of values ids places q
    other_removed q ne (inl k) = moved q k.0 ne k.1 (same_or k.0 l) ∙ sym (value-present n ids places C values k.0 q k.1)
    other_removed q ne (inr m) = absent' q (λ k. nowhere k.0 (shorter k.0 q k.1)) ∙ sym (value-absent n ids places C values q m)
      where
        nowhere : (k : ℕ) → (k < l) × ((k ≡ p) × (q ≡ last) ⊎ (k ≢ p) × (slice_get ids k ≡ Some q)) → ⊥
        nowhere k (b, inl (e, s)) = m (l, at_last ∙ ap Some (sym s))
        nowhere k (b, inr (e, s)) = m (k, s)

    pub frees-removed : Frees (meaning_of values ids places) (meaning_of (swap_remove values p x) (swap_remove ids p d) (slice_set places last p)) id
    frees-removed = record {
      touches = touches-one values (swap_remove values p x) ids (swap_remove ids p d) places (slice_set places last p) id (Removed id) refl tt (λ q ne. other_removed q ne (found n ids places C q));
      freed = ap is_none freed-removed;
    }

-- ---- the pages of the table
-- a removal takes no page away
pub paged-removed : (len l : ℕ) (ids : List ℕ) (places : Paged ℕ) → ArePaged len ids places → (p d : ℕ) (ids'' : List ℕ) (places'' : Paged ℕ) → length ids ≡ l + 1 → p < length ids → ids'' ≡ swap_remove ids p d → places''.pages ≡ places.pages → ArePaged len ids'' places''
paged-removed len l ids places P p d ids'' places'' size within e f = record { paged = λ k i h. stays k i (ap (λ (y : List ℕ). slice_get y k) (sym e) ∙ h) }
  where
    page : (k i : ℕ) → slice_get ids k ≡ Some i → HasPage len places'' i
    page k i h = ap (λ s. set.contains s (i / len)) f ∙ P.paged k i h

    stays : (k i : ℕ) → slice_get (swap_remove ids p d) k ≡ Some i → HasPage len places'' i
    stays k i h = elim (cases_lt k l) [
      | inl b ↦ elim (same_or k p) [
        | inl s ↦ elim (cases_lt p l) [
          | inl c ↦ page l i (sym (get-swap_remove_at ids p d l size c) ∙ sym (ap (slice_get (swap_remove ids p d)) s) ∙ h)
          | inr c ↦ absurd (let q = s in omega (arith, q, b, c))
        ]
        | inr s ↦ page k i (sym (get-swap_remove_other ids p d k l size within b s) ∙ h)
      ]
      | inr b ↦ absurd (not_both (slice_get (swap_remove ids p d) k) i h (get-swap_remove_past ids p d k l size within b))
    ]

-- a page that was made
module _ (pages pages'' : set.FinSet nat_cmp) (page : ℕ) (f : pages'' ≡ set.insert pages page) where
  contains-made : (q : ℕ) → set.contains pages'' q ≡ (nat_eq q page || set.contains pages q)
  contains-made q = ap (λ s. set.contains s q) f ∙ set.contains-insert nat_cmp_total pages page q ∙ ap (λ b. b || set.contains pages q) (unsigned_tied q page)

  pub page-made : set.contains pages'' page ≡ true
  page-made = contains-made page ∙ ap (λ b. b || set.contains pages page) (itself page)

-- an insertion makes the page of its index
pub paged-added : (len : ℕ) (ids : List ℕ) (places : Paged ℕ) → ArePaged len ids places → (id : ℕ) (ids'' : List ℕ) (places'' : Paged ℕ) → ids'' ≡ ids ++ id ∷ [] → places''.pages ≡ set.insert places.pages (id / len) → ArePaged len ids'' places''
paged-added len ids places P id ids'' places'' e f = record { paged = λ k i h. there k i (same_or k (length ids)) (ap (λ (y : List ℕ). slice_get y k) (sym e) ∙ h) }
  where
    there : (k i : ℕ) → (k ≡ length ids) ⊎ (k ≢ length ids) → slice_get (ids ++ id ∷ []) k ≡ Some i → HasPage len places'' i
    there k i (inl s) h =
        let same : i ≡ id = some_inj (slice_get (ids ++ id ∷ []) k) i id h (ap (slice_get (ids ++ id ∷ [])) s ∙ get-push_last ids id) in
        rw (ap (λ q. q / len) same) (page-made places.pages places''.pages (id / len) f)
    there k i (inr s) h = contains-made places.pages places''.pages (id / len) f (i / len) ∙ or_right (nat_eq (i / len) (id / len)) _ (P.paged k i (sym (get-push_other ids id k s) ∙ h))

-- a page reaches past each place of it
pub in_page : (len at n : ℕ) → 0 < len → (at / len + 1) * len ≤ n → at < n
in_page len at n some le =
    let m = mod_below at len some in
    let d = div-add-mod' at len in
    let e : (at / len + 1) * len ≡ at / len * len + len = suc-mul' (at / len) len in
    omega (arith, m, d, e, le)
  where
    suc-mul' : (a b : ℕ) → (a + 1) * b ≡ a * b + b
    suc-mul' a b = rw (let p : a + 1 ≡ suc a = omega arith in p) (let q = suc-mul a b in omega (arith, q))

-- a page more, and the places of before
pub kept_places : (places longer : List ℕ) → ((i : ℕ) → get_or longer i 0 ≡ get_or places i 0) → length places ≤ length longer → (q k : ℕ) → slice_get places q ≡ Some k → slice_get longer q ≡ Some k
kept_places places longer same le q k h =
    let b = slice_get_within places q k h in
    slice_get-get_or longer q 0 (omega (arith, b, le)) ∙ ap Some (same q ∙ get_or_from_slice_get places q k 0 h)

-- what `remove` reads and leaves
module _ {T : Type 0} (values : List T) (ids places : List ℕ) (n : ℕ) (C : IsConsistent n ids places) (len : length values ≡ n) (id place last cnt : ℕ)
    (e₁ : place ≡ get_or places id 0) (e₂ : last ≡ get_or ids (cnt - 1) last) (e₃ : cnt ≡ length ids) (req : is_some (value_of values ids places id) ≡ true) where
  where_id : IsAt ids id
  where_id = at_of_value n ids places C values len id req

  same_place : place ≡ where_id.0
  same_place = e₁ ∙ get_or_from_slice_get places id where_id.0 0 (C.placed where_id.0 id where_id.1)

  at_id : slice_get ids place ≡ Some id
  at_id = ap (slice_get ids) same_place ∙ where_id.1

  pub place-in : place < length ids
  place-in = slice_get_within ids place id at_id

  size_n : n ≡ (cnt - 1) + 1
  size_n = let a = place-in in let b = C.lengths in omega arith

  at_end : slice_get ids (cnt - 1) ≡ Some last
  at_end = slice_get-get_or ids (cnt - 1) last (let a = place-in in omega arith) ∙ ap Some (sym e₂)

  pub last-in : last < length places
  last-in = slice_get_within places last (cnt - 1) (C.placed (cnt - 1) last at_end)

  pub value-read : value_of values ids places id ≡ slice_get values place
  value-read = value-present n ids places C values place id at_id

  pub value-taken : (x : T) → x ≡ get_or values place x → value_of values ids places id ≡ Some x
  value-taken x e = value-read ∙ slice_get-get_or values place x (let a = place-in in let b = C.lengths in omega arith) ∙ ap Some (sym e)

  pub last-paged : (len : ℕ) (paged : Paged ℕ) → ArePaged len ids paged → HasPage len paged last
  last-paged len paged P = P.paged (cnt - 1) last at_end

  pub paged-after : (len d : ℕ) (paged paged'' : Paged ℕ) (ids'' : List ℕ) → ArePaged len ids paged → ids'' ≡ swap_remove ids place d → paged''.pages ≡ paged.pages → ArePaged len ids'' paged''
  paged-after len d paged paged'' ids'' P e f = paged-removed len (cnt - 1) ids paged P place d ids'' paged'' (C.lengths ∙ size_n) place-in e f

  pub consistent-after : (d k : ℕ) (ids'' places'' : List ℕ) → ids'' ≡ swap_remove ids place d → k + 1 ≡ n → places'' ≡ slice_set places last place → IsConsistent k ids'' places''
  consistent-after d k ids'' places'' e s p =
      let back : cnt - 1 ≡ k = (let a = size_n in omega arith) in
      subst (λ (y : List ℕ). IsConsistent k ids'' y) (sym p)
      (subst (λ (y : List ℕ). IsConsistent k y (slice_set places last place)) (sym e)
      (subst (λ j. IsConsistent j (swap_remove ids place d) (slice_set places last place)) back
      (consistent-removed n (cnt - 1) ids places C id place last d size_n at_id at_end)))

  pub frees-after : (d : ℕ) (x : T) (ids'' places'' : List ℕ) (values'' : List T) → ids'' ≡ swap_remove ids place d → values'' ≡ swap_remove values place x → places'' ≡ slice_set places last place
      → Frees (meaning_of values ids places) (meaning_of values'' ids'' places'') id
  frees-after d x ids'' places'' values'' e f p =
      subst (λ (y : List ℕ). Frees (meaning_of values ids places) (meaning_of values'' ids'' y) id) (sym p)
      (subst (λ (y : List ℕ). Frees (meaning_of values ids places) (meaning_of values'' y (slice_set places last place)) id) (sym e)
      (subst (λ (y : List T). Frees (meaning_of values ids places) (meaning_of y (swap_remove ids place d) (slice_set places last place)) id) (sym f)
      (frees-removed n (cnt - 1) ids places C id place last d size_n at_id at_end values x len)))

-- what `insert` leaves
module _ {T : Type 0} (values : List T) (ids places longer : List ℕ) (n : ℕ) (C : IsConsistent n ids places) (len : length values ≡ n) (id : ℕ) (x : T)
    (req : is_none (value_of values ids places id) ≡ true) (reach : id < length longer) (keep : (q k : ℕ) → slice_get places q ≡ Some k → slice_get longer q ≡ Some k) where
  nowhere : IsAt ids id → ⊥
  nowhere k =
      let v : value_of values ids places id ≡ Some (get_or values k.0 x) =
      value-present n ids places C values k.0 id k.1 ∙ slice_get-get_or values k.0 x (let a = slice_get_within ids k.0 id k.1 in let b = C.lengths in omega arith) in
      false≢true (sym (ap is_none v) ∙ req)

  kept : (q k : ℕ) → q ≢ id → slice_get places q ≡ Some k → slice_get (slice_set longer id n) q ≡ Some k
  kept q k ne e = get-set_other longer id n q ne ∙ keep q k e

  pub consistent-added : (m : ℕ) (ids'' places'' : List ℕ) (k : ℕ) → m ≡ n → ids'' ≡ ids ++ id ∷ [] → k ≡ n + 1 → places'' ≡ slice_set longer id m → IsConsistent k ids'' places''
  consistent-added m ids'' places'' k e f s p =
      subst (λ (y : List ℕ). IsConsistent k ids'' y) (sym p)
      (subst (λ j. IsConsistent j ids'' (slice_set longer id m)) (sym s)
      (subst (λ (y : List ℕ). IsConsistent (n + 1) y (slice_set longer id m)) (sym f)
      (subst (λ j. IsConsistent (n + 1) (ids ++ id ∷ []) (slice_set longer id j)) (sym e)
      (consistent-pushed n ids places (slice_set longer id n) C id nowhere (get-set_same longer id n reach) kept))))

  pub puts-added : (m : ℕ) (ids'' places'' : List ℕ) (values'' : List T) → m ≡ n → ids'' ≡ ids ++ id ∷ [] → values'' ≡ values ++ x ∷ [] → places'' ≡ slice_set longer id m
      → Puts (meaning_of values ids places) (meaning_of values'' ids'' places'') id x (Inserted id)
  puts-added m ids'' places'' values'' e f h p =
      subst (λ (y : List ℕ). Puts (meaning_of values ids places) (meaning_of values'' ids'' y) id x (Inserted id)) (sym p)
      (subst (λ (y : List T). Puts (meaning_of values ids places) (meaning_of y ids'' (slice_set longer id m)) id x (Inserted id)) (sym h)
      (subst (λ (y : List ℕ). Puts (meaning_of values ids places) (meaning_of (values ++ x ∷ []) y (slice_set longer id m)) id x (Inserted id)) (sym f)
      (subst (λ j. Puts (meaning_of values ids places) (meaning_of (values ++ x ∷ []) (ids ++ id ∷ []) (slice_set longer id j)) id x (Inserted id)) (sym e)
      (puts-pushed n ids places (slice_set longer id n) C id nowhere (get-set_same longer id n reach) kept values x len))))

-- ---- the slice
some_within : {X : Type 0} (xs : List X) (k : ℕ) → k < length xs → is_some (slice_get xs k) ≡ true
some_within [] k h = absurd (omega arith)
some_within (x ∷ xs) zero h = refl
some_within (x ∷ xs) (suc k) h = some_within xs k (omega arith)

pub none_not_some : {X : Type 0} (o : Option X) → is_none o ≡ true → is_some o ≡ true → ⊥
none_not_some None h k = false≢true k
none_not_some (Some x) h k = false≢true h

module _ (n : ℕ) (ids places : List ℕ) (C : IsConsistent n ids places) {T : Type 0} (values : List T) (len : length values ≡ n) where
  pub placed_some : (k i : ℕ) → slice_get ids k ≡ Some i → is_some (value_of values ids places i) ≡ true
  placed_some k i e = ap is_some (value-present n ids places C values k i e) ∙ some_within values k (let a = slice_get_within ids k i e in let b = C.lengths in omega arith)

  module _ (at : ℕ → Option T) (h : Shows (meaning_of values ids places) at) where
    each_at : (k i : ℕ) → slice_get ids k ≡ Some i → (o : Option T) → at i ≡ o → at i ≡ slice_get values k
    each_at k i e (Some x) p = sym (h.present i (ap is_some p)) ∙ value-present n ids places C values k i e
    each_at k i e None p = absurd (none_not_some (value_of values ids places i) (h.absent i p) (placed_some k i e))

    -- the ids arrange the map's values
    pub arrangement : Arranges at ids values
    arrangement = record {
      lengths = C.lengths ∙ sym len;
      each = λ k i e. each_at k i e (at i) refl;
      all = λ i some. at_of_value n ids places C values len i (ap is_some (h.present i some) ∙ some);
      once = λ j k i. one_place n ids places C j k i;
    }
