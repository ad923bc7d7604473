-- The value of a list is read as the list.
use Rattle.std.proofs.Common.{◌≡◌, ◌≢◌, ℕ, zero, suc, ◌+◌, ◌<◌, ◌≤◌, List, [], ◌∷◌, ◌++◌, length, get_or, drop, map, refl, sym, ap, ◌∙◌, Option, Some, None, option_map, append_assoc, append-nil, arith}
use Rattle.std.proofs.lemmas.List.{drop_more}
use Rattle.serde_json.specs.Data.{Data, depth, items_depth, Items}
use Rattle.serde_json.specs.Events.{items_len}
use Rattle.serde_json.specs.View.{view, items_view, items_of}
use Rattle.serde_json.specs.declared.value.Value.{Value}
use Rattle.saveload.specs.declared.entity_data.EntityData.{EntityData}
use Rattle.saveload.specs.Json.{record_json, only_of, record_from, records_from}

-- a list of more or fewer than one has no only item
pub not_one : (vs : List Value) → length vs ≢ 1 → only_of (items_view vs) ≡ None
not_one [] d = refl
not_one (v ∷ []) d = absurd (d refl)
not_one (v ∷ u ∷ vs) d = refl

pub items_length : (vs : List Value) → items_len (items_view vs) ≡ length vs
items_length [] = refl
items_length (v ∷ vs) = ap suc (items_length vs)

-- what was read of the front, and what the rest gives
abbrev pub after : {M D : Type 0} → (Data → Option M) → (Data → Option D) → List (EntityData M D) → Items → Option (List (EntityData M D))
after mf pf rs ds = option_map (λ qs. rs ++ qs) (records_from mf pf ds)

after_item : {M D : Type 0} (rs : List (EntityData M D)) (r : EntityData M D) (o : Option (List (EntityData M D))) → option_map (λ qs. rs ++ qs) (option_map (λ qs. r ∷ qs) o) ≡ option_map (λ qs. (rs ++ r ∷ []) ++ qs) o
after_item rs r None = refl
after_item rs r (Some qs) = ap Some (sym (append_assoc rs (r ∷ []) qs))

pub read_step : {M D : Type 0} (mf : Data → Option M) (pf : Data → Option D) (vs : List Value) (i : ℕ) (v : Value) (rs : List (EntityData M D)) (r : EntityData M D) (whole : Option (List (EntityData M D))) → i < length vs → whole ≡ after mf pf rs (items_view (drop i vs)) → Some r ≡ record_from mf pf (view (get_or vs i v)) → whole ≡ after mf pf (rs ++ r ∷ []) (items_view (drop (i + 1) vs))
read_step mf pf vs i v rs r whole lt e f =
    let at : records_from mf pf (items_view (drop i vs)) ≡ option_map (λ qs. r ∷ qs) (records_from mf pf (items_view (drop (i + 1) vs))) = rw (drop_more vs i v lt, ← f) refl in
    e ∙ rw at (after_item rs r (records_from mf pf (items_view (drop (i + 1) vs))))

pub read_none : {M D : Type 0} (mf : Data → Option M) (pf : Data → Option D) (vs : List Value) (i : ℕ) (v : Value) (rs : List (EntityData M D)) (whole : Option (List (EntityData M D))) → i < length vs → whole ≡ after mf pf rs (items_view (drop i vs)) → None ≡ record_from mf pf (view (get_or vs i v)) → whole ≡ None
read_none mf pf vs i v rs whole lt e f = e ∙ rw (drop_more vs i v lt, ← f) refl

drop_past : {X : Type 0} (xs : List X) (i : ℕ) → length xs ≤ i → drop i xs ≡ []
drop_past [] zero le = refl
drop_past [] (suc i) le = refl
drop_past (x ∷ xs) zero le = absurd (omega (arith, le))
drop_past (x ∷ xs) (suc i) le = drop_past xs i (omega (arith, le))

pub read_all : {M D : Type 0} (mf : Data → Option M) (pf : Data → Option D) (vs : List Value) (i : ℕ) (rs : List (EntityData M D)) (whole : Option (List (EntityData M D))) → length vs ≤ i → whole ≡ after mf pf rs (items_view (drop i vs)) → whole ≡ Some rs
read_all mf pf vs i rs whole le e = e ∙ rw (drop_past vs i le, append-nil) refl

pub start : {M D : Type 0} (mf : Data → Option M) (pf : Data → Option D) (o : Option (List (EntityData M D))) → o ≡ option_map (λ qs. [] ++ qs) o
start mf pf None = refl
start mf pf (Some x) = refl

-- a list nests 127 deep at most
pub list_shallow : {M D : Type 0} (mj : M → Data) (pj : D → List Data) → ((x : M) → depth (mj x) ≤ 123) → ((x : D) → items_depth (items_of (pj x)) ≤ 124) → (rs : List (EntityData M D)) → items_depth (items_of (map (record_json mj pj) rs)) ≤ 126
list_shallow mj pj m p [] = omega arith
list_shallow mj pj m p (r ∷ rs) = omega (arith, p r.components, m r.marker, list_shallow mj pj m p rs)
