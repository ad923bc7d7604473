-- On slices that were written to.
use Rattle.std.proofs.Common.{[], ◌∷◌, ◌++◌, ◌+◌, zero, suc, nat_eq, map, take, drop, get_or, ap, sym, ◌∙◌, ◌≡◌, ℕ, ◌<◌, Some, List, length, slice_set, arith, Bool, true, false, cond, None, refl, is_some}
use Rattle.std.specs.Prelude.{Option}
use Rattle.std.specs.Option.{option_map}
use Rattle.std.proofs.lemmas.Bool.{false≢true}
use Rattle.std.specs.List.{slice_get}
use Rattle.std.proofs.lemmas.Grind.{common_steps}
use Rattle.std.proofs.lemmas.Option.{gets}
use Rattle.storages.specs.Slices.{item_beside}

pub given : {X : Type 0} (b : Bool) (o : Option X) → b ≡ true → cond b o None ≡ o
given true o h = refl
given false o h = absurd (false≢true h)

pub within : {X : Type 0} (xs : List X) (i : ℕ) → is_some (slice_get xs i) ≡ true → i < length xs
within xs i h = grind (arith, common_steps, gets)

pub get-set : {X : Type 0} (xs : List X) (i : ℕ) (x : X) → i < length xs → slice_get (slice_set xs i x) i ≡ Some x
get-set xs i x h = grind (arith, common_steps, gets)

-- the places below i are mapped; one more is
map_next : {X : Type 0} (f : X → X) (xs : List X) (i : ℕ) (d : X) → i < length xs → slice_set (map f (take i xs) ++ drop i xs) i (f (get_or (map f (take i xs) ++ drop i xs) i d)) ≡ map f (take (suc i) xs) ++ drop (suc i) xs
map_next f [] i d h = absurd (omega arith)
map_next f (x ∷ xs) zero d h = refl
map_next f (x ∷ xs) (suc i) d h = ap (λ (ys : List _). f x ∷ ys) (map_next f xs i d (omega arith))

pub map_at : {X : Type 0} (f : X → X) (xs : List X) (i : ℕ) (d : X) → i < length xs → slice_set (map f (take i xs) ++ drop i xs) i (f (get_or (map f (take i xs) ++ drop i xs) i d)) ≡ map f (take (i + 1) xs) ++ drop (i + 1) xs
map_at f xs i d h = let e : suc i ≡ i + 1 = omega arith in map_next f xs i d h ∙ ap (λ k. map f (take k xs) ++ drop k xs) e

map_first : {X : Type 0} (f : X → X) (x : X) (b : Bool) (o o' : Option X) → o' ≡ option_map f o → cond b (Some (f x)) o' ≡ option_map f (cond b (Some x) o)
map_first f x true o o' e = refl
map_first f x false o o' e = e

-- a look-up among mapped values
pub beside-map : {X : Type 0} (f : X → X) (ids : List ℕ) (xs : List X) (q : ℕ) → item_beside ids (map f xs) q ≡ option_map f (item_beside ids xs q)
beside-map f [] xs q = refl
beside-map f (i ∷ is) [] q = refl
beside-map f (i ∷ is) (x ∷ xs) q = map_first f x (nat_eq q i) (item_beside is xs q) (item_beside is (map f xs) q) (beside-map f is xs q)

pub mapped : {X : Type 0} (f : X → X) (b : Bool) (o o' : Option X) → is_some o ≡ b → (b ≡ true → o' ≡ option_map f o) → cond b o' None ≡ option_map f o
mapped f true o o' e h = h refl
mapped f false None o' e h = refl
mapped f false (Some x) o' e h = absurd (false≢true (sym e))
