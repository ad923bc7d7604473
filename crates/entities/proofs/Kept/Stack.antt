-- What births and deaths do to the generations and to the stack of free indices.
use Rattle.std.proofs.Common.{◌≡◌, ℕ, suc, zero, ◌+◌, ◌<◌, ◌≤◌, true, false, not, ◌&&◌, ◌||◌, cond, eqb, ltb, List, [], ◌∷◌, ◌++◌, length, get_or, set, ℤ, pos, negsuc, refl, sym, ap, ◌∙◌, subst, inl, inr, arith, length-set}
use Rattle.std.specs.Prelude.{nat_abs, int_lt}
use Rattle.std.specs.List.{count_by}
use Rattle.std.proofs.lemmas.Bool.{false≢true, cases_eq, cases_lt, cases_order, eq-eqb, ne_eqb, lt-ltb}
use Rattle.std.proofs.lemmas.Bool.Decides.{nat_tests}
use Rattle.std.proofs.lemmas.List.{get_or-set_same, get_or-set_other, get_or_past, get_or_push, get_or_append_left, length_push}
use Rattle.std.proofs.lemmas.List.Sums.{sum_by-set, sum_by_push, count_by-le-length}
use Rattle.entities.specs.Population.{one_birth, with_one}
use Rattle.entities.specs.Census.{births_of, living_of}
use Rattle.entities.specs.Kept.{IsStacked, living_count, free_at}

pub free_is_dead : (z : ℤ) → free_at z ≡ true → (n : ℕ) × (z ≡ negsuc n) × (n < 2147483646)
free_is_dead (pos zero) h = absurd (false≢true h)
free_is_dead (pos (suc n)) h = absurd (false≢true (rw (lt-ltb 0 (suc n) (omega arith)) at h))
free_is_dead (negsuc n) h = (n, refl, grind (arith, nat_tests))

-- the stack's last index is free
pub last_is_free : (gs : List ℤ) (free rest : List ℕ) (i : ℕ) → IsStacked gs free → free ≡ rest ++ i ∷ [] → free_at (get_or gs i (pos 0)) ≡ true
last_is_free gs free rest i k e =
    let at_i = k.listed i in
    let push = sum_by_push (λ x. cond (eqb x i) 1 0) rest i in
    elim (free_at (get_or gs i (pos 0))) as (λ b. count_by (λ x. eqb x i) free ≡ cond b 1 0 → b ≡ true) [
      | true ↦ λ _. refl
      | false ↦ λ h. absurd (grind (arith, nat_tests, e, push))
    ] at_i

-- an index with a generation is within the list
pub within : (gs : List ℤ) (i : ℕ) → free_at (get_or gs i (pos 0)) ≡ true → i < length gs
within gs i f = elim (cases_lt i (length gs)) [ inl p ↦ p | inr q ↦ absurd (let e = get_or_past gs i (pos 0) q in let g : free_at (pos 0) ≡ true = rw e at f in cc) ]

-- index i, which was dead, is born once more
pub record IsRevived (gs : List ℤ) (i : ℕ) (gs' : List ℤ) : Type 0 where
  pub dead : living_of gs i ≡ false
  pub births : (j : ℕ) → births_of gs' j ≡ one_birth (births_of gs) i j
  pub living : (j : ℕ) → living_of gs' j ≡ with_one (living_of gs) i j

pub free_dead : (gs : List ℤ) (i : ℕ) → free_at (get_or gs i (pos 0)) ≡ true → living_of gs i ≡ false
free_dead gs i f = let d = free_is_dead (get_or gs i (pos 0)) f in rw d.1 refl

pub revived_set : (gs : List ℤ) (i n : ℕ) → free_at (get_or gs i (pos 0)) ≡ true → i < length gs → n ≡ births_of gs i + 1 → IsRevived gs i (set gs i (pos n))
revived_set gs i n free within e = record { dead = free_dead gs i free; births = births; living = living }
  where
    births : (j : ℕ) → births_of (set gs i (pos n)) j ≡ cond (eqb j i) (births_of gs j + 1) (births_of gs j)
    births j = elim (cases_eq j i) [
      | inl s ↦ rw (s, get_or-set_same gs i (pos n) (pos 0) within, eq-eqb i i refl) e
      | inr d ↦ rw (get_or-set_other gs i j (pos n) (pos 0) d, ne_eqb j i d) refl
    ]

    living : (j : ℕ) → living_of (set gs i (pos n)) j ≡ (eqb j i || living_of gs j)
    living j = elim (cases_eq j i) [
      | inl s ↦ rw (s, get_or-set_same gs i (pos n) (pos 0) within, eq-eqb i i refl) (lt-ltb 0 n (omega arith))
      | inr d ↦ rw (get_or-set_other gs i j (pos n) (pos 0) d, ne_eqb j i d) refl
    ]

-- a free index is no longer one once it is born
listed_revived : (gs : List ℤ) (rest : List ℕ) (i n j : ℕ) → i < length gs → free_at (get_or gs i (pos 0)) ≡ true → count_by (λ x. eqb x j) (rest ++ i ∷ []) ≡ cond (free_at (get_or gs j (pos 0))) 1 0 → n ≡ births_of gs i + 1 → count_by (λ x. eqb x j) rest ≡ cond (free_at (get_or (set gs i (pos n)) j (pos 0))) 1 0
listed_revived gs rest i n j inside free before en =
    let push = sum_by_push (λ x. cond (eqb x j) 1 0) rest i in
    elim (cases_eq j i) [
      | inl s ↦
          let now : free_at (get_or (set gs i (pos n)) j (pos 0)) ≡ false = rw (s, get_or-set_same gs i (pos n) (pos 0) inside, lt-ltb 0 n (omega arith)) refl in
          let was : free_at (get_or gs j (pos 0)) ≡ true = rw s free in
          let test : eqb i j ≡ true = eq-eqb i j (sym s) in
          rw now (grind (arith, nat_tests, rw was at before, rw test at push))
      | inr d ↦
          let test : eqb i j ≡ false = ne_eqb i j (λ e. d (sym e)) in
          rw (get_or-set_other gs i j (pos n) (pos 0) d) (omega (arith, before, rw test at push))
    ]

living_revived : (gs : List ℤ) (i n : ℕ) → i < length gs → free_at (get_or gs i (pos 0)) ≡ true → 0 < n → living_count (set gs i (pos n)) ≡ living_count gs + 1
living_revived gs i n inside free above =
    let dead = free_is_dead (get_or gs i (pos 0)) free in
    let s = sum_by-set (λ g. cond (int_lt (pos 0) g) 1 0) gs i (pos n) (pos 0) inside in
    omega (arith, rw (dead.1, lt-ltb 0 n above) at s)

pub stacked_revived : (gs : List ℤ) (free rest : List ℕ) (i n : ℕ) → IsStacked gs free → free ≡ rest ++ i ∷ [] → n ≡ births_of gs i + 1 → IsStacked (set gs i (pos n)) rest
stacked_revived gs free rest i n k e en =
    let last = last_is_free gs free rest i k e in
    let inside = within gs i last in
    record {
      listed = λ j. listed_revived gs rest i n j inside last (subst (λ (f : List ℕ). count_by (λ x. eqb x j) f ≡ cond (free_at (get_or gs j (pos 0))) 1 0) e (k.listed j)) en;
      used = λ j l. elim (cases_eq j i) [
        | inl s ↦ rw (s, get_or-set_same gs i (pos n) (pos 0) inside) (λ z. absurd (omega (arith, ap nat_abs z)))
        | inr d ↦ rw (get_or-set_other gs i j (pos n) (pos 0) d) (k.used j (omega (arith, length-set gs i (pos n))))
      ];
      counted = omega (arith, k.counted, length-set gs i (pos n), living_revived gs i n inside last (omega arith), length_push rest i, ap length e);
    }

-- the least unused index is born
births_past : (gs : List ℤ) (j : ℕ) → births_of (gs ++ pos 1 ∷ []) j ≡ cond (eqb j (length gs)) (births_of gs j + 1) (births_of gs j)
births_past gs j = elim (cases_order j (length gs)) [
  | inl s ↦ rw (s, get_or_push gs (pos 1) (pos 0) (length gs) refl, eq-eqb (length gs) (length gs) refl, get_or_past gs (length gs) (pos 0) (omega arith)) refl
  | inr (inl b) ↦ rw (get_or_append_left gs (pos 1 ∷ []) (pos 0) j b, ne_eqb j (length gs) (omega arith)) refl
  | inr (inr a) ↦ rw (get_or_past gs j (pos 0) (omega arith), get_or_past (gs ++ pos 1 ∷ []) j (pos 0) (omega (arith, length_push gs (pos 1))), ne_eqb j (length gs) (omega arith)) refl
]

living_past : (gs : List ℤ) (j : ℕ) → living_of (gs ++ pos 1 ∷ []) j ≡ (eqb j (length gs) || living_of gs j)
living_past gs j = elim (cases_order j (length gs)) [
  | inl s ↦ rw (s, get_or_push gs (pos 1) (pos 0) (length gs) refl, eq-eqb (length gs) (length gs) refl) refl
  | inr (inl b) ↦ rw (get_or_append_left gs (pos 1 ∷ []) (pos 0) j b, ne_eqb j (length gs) (omega arith)) refl
  | inr (inr a) ↦ rw (get_or_past gs j (pos 0) (omega arith), get_or_past (gs ++ pos 1 ∷ []) j (pos 0) (omega (arith, length_push gs (pos 1))), ne_eqb j (length gs) (omega arith)) refl
]

pub revived_push : (gs : List ℤ) → IsRevived gs (length gs) (gs ++ pos 1 ∷ [])
revived_push gs = record { dead = rw (get_or_past gs (length gs) (pos 0) (omega arith)) refl; births = births_past gs; living = living_past gs }

-- an index that lives is in the list, above zero
pub alive_at : (gs : List ℤ) (i : ℕ) → living_of gs i ≡ true → (m : ℕ) × (get_or gs i (pos 0) ≡ pos (suc m)) × (i < length gs)
alive_at gs i l =
    let inside : i < length gs = elim (cases_lt i (length gs)) [ inl p ↦ p | inr q ↦ absurd (false≢true (rw (get_or_past gs i (pos 0) q) at l)) ] in
    elim (get_or gs i (pos 0)) as (λ z. int_lt (pos 0) z ≡ true → (m : ℕ) × (z ≡ pos (suc m)) × (i < length gs)) [
      | pos zero ↦ λ h. absurd (false≢true h)
      | pos (suc m) ↦ λ h. (m, refl, inside)
      | negsuc m ↦ λ h. absurd (false≢true h)
    ] l

-- index i, which lived, is dead
pub record IsBuried (gs : List ℤ) (i : ℕ) (gs' : List ℤ) : Type 0 where
  pub births : (j : ℕ) → births_of gs' j ≡ births_of gs j
  pub living : (j : ℕ) → living_of gs' j ≡ (not (eqb j i) && living_of gs j)

pub buried_set : (gs : List ℤ) (i m : ℕ) → i < length gs → get_or gs i (pos 0) ≡ pos (suc m) → IsBuried gs i (set gs i (negsuc m))
buried_set gs i m inside was = record {
  births = λ j. elim (cases_eq j i) [
    | inl s ↦ rw (s, get_or-set_same gs i (negsuc m) (pos 0) inside, was) refl
    | inr d ↦ rw (get_or-set_other gs i j (negsuc m) (pos 0) d) refl
  ];
  living = λ j. elim (cases_eq j i) [
    | inl s ↦ rw (s, get_or-set_same gs i (negsuc m) (pos 0) inside, eq-eqb i i refl) refl
    | inr d ↦ rw (get_or-set_other gs i j (negsuc m) (pos 0) d, ne_eqb j i d) refl
  ];
}

pub stacked_buried : (gs : List ℤ) (free free' : List ℕ) (i m : ℕ) → IsStacked gs free → i < length gs → get_or gs i (pos 0) ≡ pos (suc m) → ((j : ℕ) → count_by (λ x. eqb x j) free' ≡ count_by (λ x. eqb x j) free + cond (eqb i j && ltb (suc m) 2147483647) 1 0) → length free' ≤ length free + 1 → IsStacked (set gs i (negsuc m)) free'
stacked_buried gs free free' i m k inside was counts short = record {
  listed = λ j. elim (cases_eq j i) [
    | inl s ↦
        let before : count_by (λ x. eqb x j) free ≡ 0 = k.listed j ∙ (rw (s, was, lt-ltb 0 (suc m) (omega arith)) refl) in
        rw (s, get_or-set_same gs i (negsuc m) (pos 0) inside) (rw (lt-ltb 0 (suc m) (omega arith)) (rw (s, eq-eqb i i refl) at (rw before at (counts j)) ∙ omega arith))
    | inr d ↦ rw (get_or-set_other gs i j (negsuc m) (pos 0) d) (rw (ne_eqb i j (λ s. d (sym s))) at (counts j) ∙ (omega (arith, k.listed j)))
  ];
  used = λ j l. elim (cases_eq j i) [
    | inl s ↦ rw (s, get_or-set_same gs i (negsuc m) (pos 0) inside) (λ z. absurd (omega (arith, ap nat_abs z)))
    | inr d ↦ rw (get_or-set_other gs i j (negsuc m) (pos 0) d) (k.used j (omega (arith, length-set gs i (negsuc m))))
  ];
  counted =
      let s = sum_by-set (λ g. cond (int_lt (pos 0) g) 1 0) gs i (negsuc m) (pos 0) inside in
      omega (arith, k.counted, length-set gs i (negsuc m), short, rw (was, lt-ltb 0 (suc m) (omega arith)) at s);
}

-- there is a place for one more free index
pub room_to_die : (gs : List ℤ) (free : List ℕ) (i m : ℕ) → IsStacked gs free → i < length gs → get_or gs i (pos 0) ≡ pos (suc m) → length free < length gs
room_to_die gs free i m k inside was =
    let s = sum_by-set (λ g. cond (int_lt (pos 0) g) 1 0) gs i (negsuc m) (pos 0) inside in
    omega (arith, k.counted, rw (was, lt-ltb 0 (suc m) (omega arith)) at s)

pub stacked_push : (gs : List ℤ) (free free' : List ℕ) → IsStacked gs free → free ≡ [] → free' ≡ [] → IsStacked (gs ++ pos 1 ∷ []) free'
stacked_push gs free free' k none none' = record {
  listed = λ j. elim (cases_order j (length gs)) [
    | inl s ↦ rw (none', s, get_or_push gs (pos 1) (pos 0) (length gs) refl) refl
    | inr (inl b) ↦ rw (none', get_or_append_left gs (pos 1 ∷ []) (pos 0) j b) (rw none at (k.listed j))
    | inr (inr a) ↦ rw (none', get_or_past (gs ++ pos 1 ∷ []) j (pos 0) (omega (arith, length_push gs (pos 1)))) refl
  ];
  used = λ j l. elim (cases_order j (length gs)) [
    | inl s ↦ rw (s, get_or_push gs (pos 1) (pos 0) (length gs) refl) (λ z. absurd (omega (arith, ap nat_abs z)))
    | inr (inl b) ↦ rw (get_or_append_left gs (pos 1 ∷ []) (pos 0) j b) (k.used j b)
    | inr (inr a) ↦ absurd (omega (arith, length_push gs (pos 1)))
  ];
  counted = omega (arith, ap length none', count_by-le-length (λ g. int_lt (pos 0) g) (gs ++ pos 1 ∷ []));
}

pub stacked_empty : (gs : List ℤ) (free : List ℕ) → gs ≡ [] → free ≡ [] → IsStacked gs free
stacked_empty gs free e f = record {
  listed = λ j. rw (e, f) refl;
  used = λ j l. absurd (omega (arith, ap length e));
  counted = rw (e, f) (omega arith);
}

-- an index in the list was born, and one past it was not
pub born_in : (gs : List ℤ) (free : List ℕ) (i : ℕ) → IsStacked gs free → i < length gs → births_of gs i ≡ 0 → ⊥
born_in gs free i k lt e = k.used i lt (no_births (get_or gs i (pos 0)) e)
  where
    no_births : (z : ℤ) → nat_abs z ≡ 0 → z ≡ pos 0
    no_births (pos n) h = ap pos h
    no_births (negsuc n) h = absurd (omega (arith, h))

pub unborn_past : (gs : List ℤ) (i : ℕ) → length gs ≤ i → births_of gs i ≡ 0
unborn_past gs i le = ap nat_abs (get_or_past gs i (pos 0) le)
