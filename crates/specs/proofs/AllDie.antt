-- The living as a list, which may die.
use Rattle.std.proofs.Common.{◌≡◌, ℕ, zero, suc, ◌<◌, Bool, true, false, not, ◌&&◌, ◌||◌, ◌==◌, List, [], ◌∷◌, length, map, refl, sym, ap, ◌∙◌, subst, inl, inr, arith}
use Rattle.std.specs.Prelude.{slice_get, slice_index_or, Some}
use Rattle.std.specs.FinSet as set
use Rattle.std.specs.Ordering.{nat_cmp}
use Rattle.std.specs.List.{All, Contains}
use mathlib.Core.Path.{fun_ext}
use Rattle.std.proofs.lemmas.Bool.{false≢true, cases_Bool, cases_lt, both_ways, eq-eqb}
use Rattle.std.proofs.lemmas.List.{length-map, get_or-take, get_or_default, length-take-le}
use Rattle.std.proofs.lemmas.List.Elements.{All-map}
use Rattle.std.proofs.lemmas.List.Kept.{AllPairs-from_increasing}
use Rattle.std.proofs.lemmas.Option.{slice_get-get_or, slice_get_past}
use Rattle.std.proofs.lemmas.List.Folds.{list_any-from_Any}
use Rattle.hibits.specs.declared.limits.TheConstants.{INDEX_LIMIT}
use Rattle.hibits.specs.Left.{left, left-ascends, left-each, left-contains}
use Rattle.hibits.specs.Sets.{has_part, has_part_zero}
use Rattle.entities.specs.declared.entity.Entity.{Entity}
use Rattle.entities.specs.Population.{Population, IsAlive, lives}
use Rattle.entities.specs.Deaths.{AreDistinct, MayAllDie, IsFirstRefused, has_index, all_dead}
use Rattle.entities.specs.Merges.{living_entity}
use Rattle.specs.specs.World.People.{NobodyLives, the_living}
use Rattle.specs.proofs.Counting.{none_left}

entity_at : (p : Population) (xs : List ℕ) (k : ℕ) (d : Entity) → k < length xs → slice_index_or (map (living_entity p) xs) k d ≡ living_entity p (slice_index_or xs k 0)
entity_at p [] k d lt = absurd (omega arith)
entity_at p (x ∷ xs) zero d lt = refl
entity_at p (x ∷ xs) (suc k) d lt = entity_at p xs k d (omega arith)

pub all_may_die : (p : Population) → MayAllDie p (the_living p)
all_may_die p = (alive, distinct)
  where
    xs : List ℕ
    xs = left (lives p) 0

    within : (k : ℕ) → k < length (map (living_entity p) xs) → k < length xs
    within k lt = rw (length-map xs (living_entity p)) at lt

    alive : All (IsAlive p) (map (living_entity p) xs)
    alive = All-map (IsAlive p) (living_entity p) xs (λ k d lt. (left-each (lives p) 0 k d lt, refl))

    distinct : AreDistinct (map (living_entity p) xs)
    distinct j k d less lt same =
        let asc = AllPairs-from_increasing xs (left-ascends (lives p) 0) j k 0 less (within k lt) in
        let e = sym (entity_at p xs j d (omega (arith, within k lt))) ∙ same ∙ entity_at p xs k d (within k lt) in
        omega (arith, asc, ap (λ (x : Entity). x.0) e)

-- what stands at a place of a list
at_place : (es : List Entity) (k : ℕ) (e : Entity) → slice_get es k ≡ Some e → (k < length es) × (slice_index_or es k e ≡ e)
at_place es k e is = elim (cases_lt k (length es)) [
  | inl lt ↦ (lt, some_same (slice_index_or es k e) e (sym (slice_get-get_or es k e lt) ∙ is))
  | inr past ↦ let none = slice_get_past es k past in absurd (cc)
]
  where
    some_same : (a b : Entity) → Some a ≡ Some b → a ≡ b
    some_same a b h = cc

-- a list that may die is not refused
pub not_refused : (p : Population) (es : List Entity) (e : Entity) → MayAllDie p es → IsFirstRefused p es e → ⊥
not_refused p es e may first =
    let k = first.0 in
    let lt : k < length es = (at_place es k e first.1.0).0 in
    let is : slice_index_or es k e ≡ e = (at_place es k e first.1.0).1 in
    let alive : IsAlive p e = subst (IsAlive p) is (may.0 k e lt) in
    let earlier = first.1.1 alive in
    let before : earlier.0 < k = omega (arith, earlier.1, length-take-le k es (omega (arith, lt))) in
    may.1 earlier.0 k e before lt (sym (get_or-take k es earlier.0 e before) ∙ earlier.2 ∙ sym is)

-- the members of the two sets are the living
pub members_living : (m m' : set.FinSet nat_cmp) (p : Population) → ((i : ℕ) → set.contains m i ≡ p.merged i) → ((i : ℕ) → set.contains m' i ≡ p.pending i) → (λ i. has_part m 0 i || has_part m' 0 i) ≡ lives p
members_living m m' p merged pending = fun_ext (λ i. rw (has_part_zero m i, has_part_zero m' i, merged i, pending i) refl)

pub nobody_listed : (p : Population) → NobodyLives p → length (the_living p) ≡ 0
nobody_listed p nobody = length-map (left (lives p) 0) (living_entity p) ∙ none_left (lives p) (λ i on. both_ways _ (nobody i) on)

in_map : (p : Population) (xs : List ℕ) (i : ℕ) → Contains xs i → has_index (map (living_entity p) xs) i ≡ true
in_map p xs i c = list_any-from_Any (λ e. e.0 == i) (map (living_entity p) xs) (c.0, living_entity p i, rw (length-map xs (living_entity p)) c.1, entity_at p xs c.0 (living_entity p i) c.1 ∙ ap (living_entity p) (get_or_default xs c.0 0 i c.1 ∙ c.2), eq-eqb i i refl)

-- who lives below the limit is of the list, and after its death nobody does
pub nobody_left : (p : Population) → ((i : ℕ) → lives p i ≡ true → i < INDEX_LIMIT) → NobodyLives (all_dead (the_living p) p)
nobody_left p below i = elim (cases_Bool (lives p i)) [
  | inl on ↦ rw (in_map p (left (lives p) 0) i (left-contains (lives p) 0 i (omega arith) (below i on) on)) (gone (p.merged i) (p.pending i))
  | inr off ↦ still (p.merged i) (p.pending i) (has_index (the_living p) i) off
]
  where
    gone : (a b : Bool) → ((a && false) || (b && false)) ≡ false
    gone true true = refl
    gone true false = refl
    gone false true = refl
    gone false false = refl

    still : (a b c : Bool) → (a || b) ≡ false → ((a && not c) || (b && not c)) ≡ false
    still true b c e = absurd (false≢true (sym e))
    still false true c e = absurd (false≢true (sym e))
    still false false c e = refl
