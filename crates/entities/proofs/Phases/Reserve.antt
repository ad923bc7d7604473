-- What follows of a reserve.
use Rattle.std.proofs.Common.{◌≡◌, ◌≢◌, ℕ, ◌+◌, ◌<◌, ◌≤◌, eqb, List, length, get_or, take, refl, sym, ap, ◌∙◌, arith, Some, eq-eqb, inl, inr}
use Rattle.std.specs.Prelude.{slice_get, nat_abs}
use Rattle.std.proofs.lemmas.Bool.{both_ways, cases_lt, cases_eq}
use Rattle.std.proofs.lemmas.List.{get_or-take, length-take, length-take-le}
use Rattle.std.proofs.lemmas.List.Folds.{list_any_at}
use Rattle.std.proofs.lemmas.Option.{slice_get-get_or, slice_get_past}
use Rattle.entities.specs.declared.entity.Entity.{Entity}
use Rattle.entities.specs.Population.{Population}
use Rattle.std.proofs.lemmas.List.{get_or-set_same, get_or-set_other}
use Rattle.std.proofs.Common.{set, min, [], lt-ltb, le-ltb}
use Rattle.entities.specs.Census.{Census, population}
use Rattle.entities.specs.Upcoming.{upcoming}
use Rattle.entities.specs.Phase.Plan.{ArePlaced, place_of_index}
use Rattle.entities.proofs.Population.Upcoming.{some_same, upcoming_is, upcoming_length, next_high}
use Rattle.entities.specs.Phase.Reserve.{IsReserve, AreApart, AreNew}

pub slice_get_within : (es : List Entity) (k : ℕ) (e : Entity) → slice_get es k ≡ Some e → k < length es
slice_get_within es k e is = elim (cases_lt k (length es)) [ inl lt ↦ lt | inr past ↦ let none = slice_get_past es k past in absurd (cc) ]

pub slice_get_is : (es : List Entity) (k : ℕ) (e d : Entity) → slice_get es k ≡ Some e → get_or es k d ≡ e
slice_get_is es k e d is = let at = slice_get-get_or es k d (slice_get_within es k e is) in some_same (get_or es k d) e (sym at ∙ is)

-- two of a reserve are not of one index
pub reserve_apart : (p : Population) (es : List Entity) (j k : ℕ) (d : Entity) → IsReserve p es → j < k → k < length es → (get_or es j d).0 ≢ (get_or es k d).0
reserve_apart p es j k d r less lt same =
    let e = get_or es k d in
    let len = length-take-le k es (omega arith) in
    both_ways _ (r.once k e (slice_get-get_or es k d lt)) (list_any_at (λ x. eqb x.0 e.0) (take k es) j d (omega (arith, len)) (eq-eqb _ _ (ap (λ (x : Entity). x.0) (get_or-take k es j d less) ∙ same)))

within_taken : (es : List Entity) (c k : ℕ) → k < length (take c es) → (k < c) × (k < length es)
within_taken es c k lt = let e = length-take c es in (omega (arith, e), omega (arith, e))

pub taken_apart : (p : Population) (es : List Entity) (c : ℕ) → IsReserve p es → AreApart (take c es)
taken_apart p es c r j k d less lt same =
    let w = within_taken es c k lt in
    reserve_apart p es j k d r less w.1 (sym (ap (λ (x : Entity). x.0) (get_or-take c es j d (omega (arith, w.0)))) ∙ same ∙ ap (λ (x : Entity). x.0) (get_or-take c es k d w.0))

pub taken_new : (p : Population) (es : List Entity) (c : ℕ) → IsReserve p es → AreNew p (take c es)
taken_new p es c r k d lt g le is =
    let w = within_taken es c k lt in
    let e = get_or es k d in
    let gen = r.generation k e (slice_get-get_or es k d w.1) in
    omega (arith, le, ap nat_abs (sym gen ∙ sym (ap (λ (x : Entity). x.1.0) (get_or-take c es k d w.0)) ∙ is), ap (λ (x : Entity). p.births x.0) (get_or-take c es k d w.0))

-- each of a reserve is found where its index is looked up
pub located : (c : Census) (n revived : ℕ) (places : List ℕ) → IsReserve (population c) (upcoming c n) → ((k : ℕ) (e : Entity) → slice_get (upcoming c n) k ≡ Some e → k < length c.free → e.0 < length c.generations)
    → revived ≡ min (length c.free) n → (0 < revived → (length places ≡ length c.generations) × ArePlaced (upcoming c n) (length c.generations) revived places) → (revived ≡ 0 → places ≡ [])
    → (k : ℕ) (e : Entity) → slice_get (upcoming c n) k ≡ Some e → place_of_index places (length c.generations) revived e.0 ≡ k
located c n revived places reserve below is some none k e at = elim (cases_lt k (length c.free)) [
  | inl low ↦
      let lt = (upcoming_is c n k e at).0 in
      let have = some (omega (arith, is, low, lt)) in
      let e_is = slice_get_is (upcoming c n) k e e at in
      let small : e.0 < length c.generations = below k e at low in
      let place = have.1 (λ i j d less b. reserve_apart (population c) (upcoming c n) i j d reserve less (omega (arith, upcoming_length c n, is, b))) k e (omega (arith, is, low, lt)) (rw e_is small) in
      rw (lt-ltb e.0 (length places) (omega (arith, have.0, small))) (rw e_is at place)
  | inr high ↦
      let u = upcoming_is c n k e at in
      let index = ap (λ (x : Entity). x.0) u.1 ∙ next_high c k high in
      let short : length places ≤ e.0 = elim (cases_lt 0 revived) [
        | inl p ↦ omega (arith, (some p).0, index)
        | inr z ↦ let nil = none (omega (arith, z)) in omega (arith, ap length nil)
      ] in
      rw (le-ltb e.0 (length places) short) (omega (arith, index, is, u.0, high))
]

-- one more stands by its index
pub placed_more : (reserve : List Entity) (born n i : ℕ) (places : List ℕ) → length places ≡ born → ((d : Entity) → (get_or reserve n d).0 ≡ i) → i < born → ArePlaced reserve born n places → ArePlaced reserve born (n + 1) (set places i n)
placed_more reserve born n i places len is inside placed apart k d lt low = elim (cases_eq k n) [
  | inl e ↦ rw (e, is d, get_or-set_same places i n 0 (omega (arith, len, inside))) refl
  | inr o ↦
      let less : k < n = omega (arith, o, lt) in
      let other : (get_or reserve k d).0 ≢ i = λ s. apart k n d less (omega arith) (s ∙ sym (is d)) in
      rw (get_or-set_other places i (get_or reserve k d).0 n 0 other) (placed (λ a b x j m. apart a b x j (omega (arith, m))) k d less low)
]

pub placed_past : (reserve : List Entity) (born n : ℕ) (places : List ℕ) → ((d : Entity) → born ≤ (get_or reserve n d).0) → ArePlaced reserve born n places → ArePlaced reserve born (n + 1) places
placed_past reserve born n places past placed apart k d lt low = elim (cases_eq k n) [
  | inl e ↦ absurd (omega (arith, rw e at low, past d))
  | inr o ↦ placed (λ a b x j m. apart a b x j (omega (arith, m))) k d (omega (arith, o, lt)) low
]
