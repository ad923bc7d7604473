-- The numbers from one on that pass a test, ascending.
use Rattle.std.specs.Prelude.{◌≡◌, ℕ, ◌+◌, ◌-◌, ◌<◌, ◌≤◌, Bool, true, false, cond, List, [], ◌∷◌, length, slice_index_or, refl}
use Rattle.std.specs.List.{Contains}
use Rattle.std.specs.List.Sorted.{IsStrictlyIncreasing}
use Rattle.std.specs.Prelude.{slice_index}
use Rattle.std.proofs.Common.{zero, suc, subst, arith, ap, ◌∙◌, sym, add-one, inl, inr}
use Rattle.std.proofs.lemmas.Bool.{cases_eq, false_from_ne_true}
use Rattle.hibits.specs.declared.limits.TheConstants.{INDEX_LIMIT}
use Rattle.hibits.specs.Walks.{IsNext}

-- of the n numbers from a on, those that pass p, ascending
unfoldable pub passing : (ℕ → Bool) → ℕ → ℕ → List ℕ
passing p a zero = []
passing p a (suc n) = cond (p a) (a ∷ passing p (suc a) n) (passing p (suc a) n)

-- the indices from a on that pass p, ascending
unfoldable pub left : (ℕ → Bool) → ℕ → List ℕ
left p a = passing p a (INDEX_LIMIT - a)

pub passing-none : (p : ℕ → Bool) (n a : ℕ) → ((k : ℕ) → a ≤ k → k < a + n → p k ≡ true → ⊥) → passing p a n ≡ []
unfolding passing
passing-none p zero a none = refl
passing-none p (suc n) a none =
    ap (λ b. cond b (a ∷ passing p (suc a) n) (passing p (suc a) n)) (false_from_ne_true (p a) (none a (omega arith) (omega arith)))
    ∙ passing-none p n (suc a) (λ k ge lt. none k (omega arith) (omega arith))

pub passing-next : (p : ℕ → Bool) (n a i m : ℕ) → a ≤ i → suc i + m ≡ a + n → p i ≡ true → ((k : ℕ) → a ≤ k → k < i → p k ≡ true → ⊥) → passing p a n ≡ i ∷ passing p (suc i) m
unfolding passing
passing-next p zero a i m le len is none = absurd (omega arith)
passing-next p (suc n) a i m le len is none =
    elim (cases_eq a i) [
      | inl same ↦
          let e : n ≡ m = omega arith in
          ap (λ b. cond b (a ∷ passing p (suc a) n) (passing p (suc a) n)) (ap p same ∙ is) ∙ ap (λ k. k ∷ passing p (suc k) n) same ∙ ap (λ k. i ∷ passing p (suc i) k) e
      | inr other ↦
          let lt : suc a ≤ i = omega (arith, other) in
          ap (λ b. cond b (a ∷ passing p (suc a) n) (passing p (suc a) n)) (false_from_ne_true (p a) (none a (omega arith) lt))
          ∙ passing-next p n (suc a) i m lt (omega arith) is (λ k ge b. none k (omega arith) b)
    ]

pub left-next : (p : ℕ → Bool) (a i : ℕ) → i < INDEX_LIMIT → IsNext p a i → left p a ≡ i ∷ left p (i + 1)
unfolding left
left-next p a i lt next =
    let le = next.from_on in
    passing-next p _ a i (INDEX_LIMIT - (i + 1)) le (omega arith) next.member next.first ∙ ap (λ k. i ∷ passing p k (INDEX_LIMIT - (i + 1))) (sym (add-one i))

pub left-none : (p : ℕ → Bool) (a : ℕ) → ((i : ℕ) → a ≤ i → i < INDEX_LIMIT → p i ≡ true → ⊥) → left p a ≡ []
unfolding left
left-none p a none = passing-none p _ a (λ k ge lt. none k ge (omega arith))

at_cons : (p : ℕ → Bool) (xs : List ℕ) (x k d : ℕ) → p x ≡ true → ((j : ℕ) → j < length xs → p (slice_index_or xs j d) ≡ true) → k < length (x ∷ xs) → p (slice_index_or (x ∷ xs) k d) ≡ true
at_cons p xs x zero d here rest lt = here
at_cons p xs x (suc k) d here rest lt = rest k (omega arith)

passing-each : (p : ℕ → Bool) (n a k d : ℕ) → k < length (passing p a n) → p (slice_index_or (passing p a n) k d) ≡ true
unfolding passing
passing-each p zero a k d lt = absurd (omega arith)
passing-each p (suc n) a k d lt =
    elim (p a) as (λ b. p a ≡ b → k < length (cond b (a ∷ passing p (suc a) n) (passing p (suc a) n)) → p (slice_index_or (cond b (a ∷ passing p (suc a) n) (passing p (suc a) n)) k d) ≡ true) [
      | true ↦ λ e l. at_cons p (passing p (suc a) n) a k d e (λ j h. passing-each p n (suc a) j d h) l
      | false ↦ λ e l. passing-each p n (suc a) k d l
    ] refl lt

-- each of them passes
pub left-each : (p : ℕ → Bool) (a k d : ℕ) → k < length (left p a) → p (slice_index_or (left p a) k d) ≡ true
unfolding left
left-each p a k d lt = passing-each p _ a k d lt

at_bounds : (a b x : ℕ) (xs : List ℕ) (k d : ℕ) → a ≤ x → x < b → ((j : ℕ) → j < length xs → (a ≤ slice_index_or xs j d) × (slice_index_or xs j d < b)) → k < length (x ∷ xs) → (a ≤ slice_index_or (x ∷ xs) k d) × (slice_index_or (x ∷ xs) k d < b)
at_bounds a b x xs zero d ge lt rest within = (ge, lt)
at_bounds a b x xs (suc k) d ge lt rest within = rest k (omega arith)

passing-bounds : (p : ℕ → Bool) (n a k d : ℕ) → k < length (passing p a n) → (a ≤ slice_index_or (passing p a n) k d) × (slice_index_or (passing p a n) k d < a + n)
unfolding passing
passing-bounds p zero a k d lt = absurd (omega arith)
passing-bounds p (suc n) a k d lt =
    let rest = λ (j : ℕ) (h : j < length (passing p (suc a) n)). (let b = passing-bounds p n (suc a) j d h in let r : (a ≤ slice_index_or (passing p (suc a) n) j d) × (slice_index_or (passing p (suc a) n) j d < a + suc n) = (omega arith, omega arith) in r) in
    elim (p a) as (λ b. k < length (cond b (a ∷ passing p (suc a) n) (passing p (suc a) n)) → (a ≤ slice_index_or (cond b (a ∷ passing p (suc a) n) (passing p (suc a) n)) k d) × (slice_index_or (cond b (a ∷ passing p (suc a) n) (passing p (suc a) n)) k d < a + suc n)) [
      | true ↦ λ l. at_bounds a (a + suc n) a (passing p (suc a) n) k d (omega arith) (omega arith) rest l
      | false ↦ λ l. rest k l
    ] lt

cons_ascends : (x : ℕ) (xs : List ℕ) → ((k : ℕ) → k < length xs → x < slice_index xs k) → IsStrictlyIncreasing xs → IsStrictlyIncreasing (x ∷ xs)
cons_ascends x xs above rest zero lt = above 0 (omega arith)
cons_ascends x xs above rest (suc k) lt = let e : suc k + 1 ≡ suc (k + 1) = omega arith in rw e (rest k (omega arith))

passing-ascends : (p : ℕ → Bool) (n a : ℕ) → IsStrictlyIncreasing (passing p a n)
unfolding passing
passing-ascends p zero a = λ k lt. absurd (omega arith)
passing-ascends p (suc n) a =
    elim (p a) as (λ b. IsStrictlyIncreasing (cond b (a ∷ passing p (suc a) n) (passing p (suc a) n))) [
      | true ↦ cons_ascends a (passing p (suc a) n) (λ k lt. let b = passing-bounds p n (suc a) k 0 lt in omega arith) (passing-ascends p n (suc a))
      | false ↦ passing-ascends p n (suc a)
    ]

-- they ascend
pub left-ascends : (p : ℕ → Bool) (a : ℕ) → IsStrictlyIncreasing (left p a)
unfolding left
left-ascends p a = passing-ascends p _ a

cons_contains : (x i : ℕ) (xs : List ℕ) → Contains xs i → Contains (x ∷ xs) i
cons_contains x i xs c = let lt = c.1 in (suc c.0, omega arith, c.2)

passing-contains : (p : ℕ → Bool) (n a i : ℕ) → a ≤ i → i < a + n → p i ≡ true → Contains (passing p a n) i
unfolding passing
passing-contains p zero a i ge lt is = absurd (omega arith)
passing-contains p (suc n) a i ge lt is =
    elim (cases_eq a i) [
      | inl same ↦
          let here : p a ≡ true = ap p same ∙ is in
          subst (λ b. Contains (cond b (a ∷ passing p (suc a) n) (passing p (suc a) n)) i) (sym here) (zero, omega arith, same)
      | inr other ↦
          let rest = passing-contains p n (suc a) i (omega (arith, other)) (omega arith) is in
          elim (p a) as (λ b. Contains (cond b (a ∷ passing p (suc a) n) (passing p (suc a) n)) i) [
            | true ↦ cons_contains a i _ rest
            | false ↦ rest
          ]
    ]

-- and they are those from a on, below the limit, that pass
pub left-contains : (p : ℕ → Bool) (a i : ℕ) → a ≤ i → i < INDEX_LIMIT → p i ≡ true → Contains (left p a) i
unfolding left
left-contains p a i ge lt is = passing-contains p (INDEX_LIMIT - a) a i ge (omega arith) is

pub contains-left : (p : ℕ → Bool) (a i : ℕ) → Contains (left p a) i → (a ≤ i) × (i < INDEX_LIMIT) × (p i ≡ true)
unfolding left
contains-left p a i c =
    let b = passing-bounds p (INDEX_LIMIT - a) a c.0 i c.1 in
    let e = c.2 in
    (omega arith, omega arith, ap p (sym e) ∙ passing-each p (INDEX_LIMIT - a) a c.0 i c.1)

passing-length : (p : ℕ → Bool) (n a : ℕ) → length (passing p a n) ≤ n
unfolding passing
passing-length p zero a = omega arith
passing-length p (suc n) a =
    let rest = passing-length p n (suc a) in
    elim (p a) as (λ b. length (cond b (a ∷ passing p (suc a) n) (passing p (suc a) n)) ≤ suc n) [
      | true ↦ omega arith
      | false ↦ omega arith
    ]

-- there are no more of them than indices
pub left-length : (p : ℕ → Bool) (a : ℕ) → length (left p a) ≤ INDEX_LIMIT
unfolding left
left-length p a = let h = passing-length p (INDEX_LIMIT - a) a in omega arith
