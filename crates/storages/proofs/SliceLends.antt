-- On components that are lent as a slice.
use Rattle.std.proofs.Common.{◌≡◌, ℕ, ◌^◌, ◌≤◌, Bool, true, false, cond, List, length, refl, ap, sym, ◌∙◌, arith, None, is_some, IsTrue, Global, ◌⊎◌, inl, inr}
use Rattle.std.specs.Prelude.{Option, Vec, vec_len}
use Rattle.std.specs.Coded.{Coded-set, coded_bool, coded_ℕ, coded_option, le_prop}
use Rattle.std.specs.List.{refill}
use Rattle.std.specs.FinMap as map
use Rattle.std.specs.FinSet as set
use Rattle.std.specs.Ordering.{nat_cmp}
use Rattle.std.specs.Option.{is_none}
use Rattle.std.proofs.lemmas.Option.{slice_get_within}
use Rattle.pages.specs.Paged.{Paged}
use Rattle.storages.specs.declared.kinds.dense_vec_storage.DenseVecStorage.{DenseVecStorage}
use Rattle.storages.specs.declared.kinds.dense_vec_storage.TheConstants.{PAGE_LEN}
use Rattle.storages.specs.Dense.{IsConsistent, ArePaged, value_of, meaning_of}
use Rattle.storages.specs.Meaning.{Meaning, Masks, Shows}
use Rattle.storages.specs.Slot.{Slot, slot_of}
use Rattle.storages.specs.Slices.{item_beside}
use Rattle.storages.specs.SliceLaws.{at_place}
use Rattle.storages.specs.SliceLends.{left_as, with_slice, Rewrites}
use Rattle.storages.proofs.Slot.{in_keys, get-list, get-slot, get-present, absent_of_none, there_of_some, contains-slot, same_map}
use Rattle.storages.proofs.Dense.{IsAt, found, one_place, value-present, value-absent, at_of_value, placed_some, none_not_some}

-- a dense table is consistent in one way
pub IsConsistent-prop : (n : ℕ) (ids places : List ℕ) (a b : IsConsistent n ids places) → a ≡ b
IsConsistent-prop n ids places a b = λ j. record {
  lengths = Coded-set coded_ℕ _ _ a.lengths b.lengths j;
  placed = λ k i e. Coded-set (coded_option coded_ℕ) _ _ (a.placed k i e) (b.placed k i e) j;
}

-- so are its pages
pub ArePaged-prop : (len : ℕ) (ids : List ℕ) (places : Paged ℕ) (a b : ArePaged len ids places) → a ≡ b
ArePaged-prop len ids places a b = λ j. record { paged = λ k i e. Coded-set coded_bool _ _ (a.paged k i e) (b.paged k i e) j }

-- a storage is told by its lists
pub same-dense : {T : Type 0} (values : Vec T Global) (ids : Vec ℕ Global) (places : Paged ℕ) (a b : IsConsistent (vec_len values) ids.items places.items) (p q : ArePaged PAGE_LEN ids.items places) (v w : length places.items ≤ 2 ^ 32)
    → ◌≡◌ {A = DenseVecStorage T} (record { values = values; ids = ids; places = places; consistent = a; paged = p; within = v }) (record { values = values; ids = ids; places = places; consistent = b; paged = q; within = w })
same-dense values ids places a b p q v w = λ j. record { values = values; ids = ids; places = places; consistent = IsConsistent-prop _ _ _ a b j; paged = ArePaged-prop _ _ _ p q j; within = le_prop v w j }

module _ {T : Type 0} (n : ℕ) (ids places : List ℕ) (C : IsConsistent n ids places) where
  -- each value stands beside its index
  pub item-dense : (values : List T) → length values ≡ n → (q : ℕ) → IsTrue (is_some (value_of values ids places q)) → item_beside ids values q ≡ value_of values ids places q
  item-dense values len q h =
      let k = at_of_value n ids places C values len q h in
      at_place ids values k.0 q k.1 (λ j e. one_place n ids places C j k.0 q e k.1) (let a = slice_get_within ids k.0 q k.1 in let b = C.lengths in omega arith)
      ∙ sym (value-present n ids places C values k.0 q k.1)

  module _ (values values' : List T) (len : length values ≡ n) (len' : length values' ≡ n) where
    still : (q : ℕ) → IsTrue (is_some (value_of values ids places q)) → IsTrue (is_some (value_of values' ids places q))
    still q h = let k = at_of_value n ids places C values len q h in placed_some n ids places C values' len' k.0 q k.1

    still_free : (q : ℕ) → is_none (value_of values ids places q) ≡ true → IsAt ids q ⊎ (IsAt ids q → ⊥) → is_none (value_of values' ids places q) ≡ true
    still_free q h (inl k) = absurd (none_not_some (value_of values ids places q) h (placed_some n ids places C values len k.0 q k.1))
    still_free q h (inr m) = ap is_none (value-absent n ids places C values' q m)

    -- other values under the same indices
    pub rewrites-dense : Rewrites item_beside (meaning_of values ids places) (meaning_of values' ids places) values'
    rewrites-dense = record {
      presence = record { present = still; free = λ q h. still_free q h (found n ids places C q) };
      extent = refl;
      order = refl;
      channel = refl;
      room = refl;
      inner_room = refl;
      at = λ q h. sym (item-dense values' len' q (still q h));
    }

-- the values that were left in the slice xs of a vector with the values ys
pub left-refilled : {T : Type 0} (xs ys ws : List T) (n : ℕ) → xs ≡ ys → n ≡ length ys → refill n ys ws ≡ left_as xs ws
left-refilled xs ys ws n e f = ap (λ m. refill m ys ws) f ∙ ap (λ (zs : List _). refill (length zs) zs ws) (sym e)

-- the map of a storage with its mask
pub shows-slot : {T : Type 0} (s : set.FinSet nat_cmp) (m : Meaning T) → Masks s m → Shows m (map.get (slot_of s m).map)
shows-slot s m k = record {
  present = λ q h. sym (get-present s m q (there_of_some s m k q h));
  absent = λ q h. k.absent q (absent_of_none s m k q h);
}

module _ {T : Type 0} (item_at : List ℕ → List T → ℕ → Option T) where
  -- what the map has then
  pub get-with_slice : (s : Slot T) (xs : List T) (q : ℕ) → map.get (with_slice item_at s xs).map q ≡ cond (map.contains_key s.map q) (item_at s.order xs q) None
  get-with_slice s xs q = get-list (map.keys s.map) (item_at s.order xs) q ∙ ap (λ b. cond b (item_at s.order xs q) None) (in_keys s.map q)

  pub places-slot : (s : set.FinSet nat_cmp) (m : Meaning T) → Masks s m → (xs : List T) → ((q : ℕ) → IsTrue (is_some (m.at q)) → item_at m.order xs q ≡ m.at q)
      → (q : ℕ) → is_some (map.get (slot_of s m).map q) ≡ true → item_at m.order xs q ≡ map.get (slot_of s m).map q
  places-slot s m k xs p q h = let t = there_of_some s m k q h in p q (k.present q t) ∙ sym (get-present s m q t)

  same_there : (s : set.FinSet nat_cmp) (m m' : Meaning T) (xs : List T) (q : ℕ) (b : Bool) → (b ≡ true → m'.at q ≡ item_at m.order xs q) → cond b (m'.at q) None ≡ cond b (item_at m.order xs q) None
  same_there s m m' xs q true h = h refl
  same_there s m m' xs q false h = refl

  pub rewrites-slot : (s : set.FinSet nat_cmp) (m m' : Meaning T) → Masks s m → (xs : List T) → Rewrites item_at m m' xs → slot_of s m' ≡ with_slice item_at (slot_of s m) xs
  rewrites-slot s m m' k xs p =
      let same : (slot_of s m').map ≡ (with_slice item_at (slot_of s m) xs).map = same_map _ _ (λ q.
      get-slot s m' q ∙ same_there s m m' xs q (set.contains s q) (λ h. p.at q (k.present q h))
      ∙ sym (get-with_slice (slot_of s m) xs q ∙ ap (λ b. cond b (item_at m.order xs q) None) (contains-slot s m k q))) in
      λ j. record { map = same j; extent = p.extent j; order = p.order j; channel = p.channel j; room = p.room j; inner_room = p.inner_room j }
