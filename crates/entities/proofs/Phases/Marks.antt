-- The marks of a phase as they are taken up, index by index.
use Rattle.std.proofs.Common.{◌≡◌, ◌≢◌, ℕ, zero, suc, ◌+◌, ◌/◌, ◌%◌, ◌^◌, ◌<◌, ◌≤◌, Bool, true, false, not, ◌||◌, cond, List, inl, inr, refl, sym, ap, ◌∙◌, arith, add-one}
use Rattle.std.proofs.Math.Bool.{or-false}
use Rattle.std.specs.Prelude.{slice_index, ◌==◌}
use Rattle.std.specs.Int.Bits.{and_zero_l}
use Rattle.std.proofs.lemmas.Bool.{cases_eq, cases_lt, ne_eqb, eq-eqb, lt-ltb, le-ltb}
use Rattle.hibits.specs.Counts.{count_below}
use Rattle.entities.specs.Population.{Population, mark}
use Rattle.entities.specs.Phase.Reserve.{with_marks}
use Rattle.entities.specs.Phase.Rule.{marks_index, marks_below, bit_of}
use Rattle.entities.proofs.Kept.Sets.{same_population}

pub same_marks : (p : Population) (f g : ℕ → Bool) → ((i : ℕ) → f i ≡ g i) → with_marks f p ≡ with_marks g p
same_marks p f g h = same_population _ _ (λ _. refl) (λ _. refl) (λ _. refl) (λ i. ap (λ b. p.marked i || b) (h i))

pub marks_none : (p : Population) (ws : List ℕ) → p ≡ with_marks (marks_below ws 0) p
marks_none p ws = same_population _ _ (λ _. refl) (λ _. refl) (λ _. refl) (λ i. rw (le-ltb i 0 (omega arith)) (sym (or-false (p.marked i))))

-- an index more
below_next : (ws : List ℕ) (k i : ℕ) → i ≢ k → marks_below ws k i ≡ marks_below ws (k + 1) i
below_next ws k i d = elim (cases_lt i k) [
  | inl b ↦ rw (lt-ltb i k b, lt-ltb i (k + 1) (omega arith)) refl
  | inr a ↦ rw (le-ltb i k a, le-ltb i (k + 1) (omega (arith, a, d))) refl
]

pub marks_one : (p : Population) (ws : List ℕ) (k : ℕ) → marks_index ws k ≡ true → mark (with_marks (marks_below ws k) p) k ≡ with_marks (marks_below ws (k + 1)) p
marks_one p ws k is = same_population _ _ (λ _. refl) (λ _. refl) (λ _. refl) (λ i. elim (cases_eq i k) [
  | inl e ↦ rw (eq-eqb i k e, lt-ltb i (k + 1) (omega (arith, e)), e, is) (last (p.marked k))
  | inr d ↦ rw (ne_eqb i k d) (ap (λ b. p.marked i || b) (below_next ws k i d))
])
  where
    last : (b : Bool) → true ≡ (b || true)
    last true = refl
    last false = refl

pub marks_skip : (p : Population) (ws : List ℕ) (k n : ℕ) → k ≤ n → ((i : ℕ) → k ≤ i → i < n → marks_index ws i ≡ false) → with_marks (marks_below ws k) p ≡ with_marks (marks_below ws n) p
marks_skip p ws k n le none = same_marks p (marks_below ws k) (marks_below ws n) (λ i. elim (cases_lt i k) [
  | inl b ↦ rw (lt-ltb i k b, lt-ltb i n (omega (arith, b, le))) refl
  | inr a ↦ elim (cases_lt i n) [
    | inl c ↦ rw (le-ltb i k a, lt-ltb i n c, none i a c) refl
    | inr c ↦ rw (le-ltb i k a, le-ltb i n c) refl
  ]
])

pub count_more : (f : ℕ → Bool) (k : ℕ) → count_below f (k + 1) ≡ cond (f k) 1 0 + count_below f k
count_more f k = ap (count_below f) (add-one k)

pub count_skip : (f : ℕ → Bool) (k m : ℕ) → ((i : ℕ) → k ≤ i → i < k + m → f i ≡ false) → count_below f (k + m) ≡ count_below f k
count_skip f k zero none = ap (count_below f) (let e : k + 0 ≡ k = omega arith in e)
count_skip f k (suc m) none =
    let e : k + suc m ≡ k + m + 1 = omega arith in
    let r = count_skip f k m (λ i a b. none i a (omega (arith, b))) in
    ap (count_below f) e ∙ count_more f (k + m) ∙ rw (none (k + m) (omega arith) (omega arith)) (omega (arith, r))

-- no index of an empty word is marked
pub none_in_word : (ws : List ℕ) (k i : ℕ) → k % 64 ≡ 0 → slice_index ws (k / 64 + 1) ≡ 0 → k ≤ i → i < k + 64 → marks_index ws i ≡ false
none_in_word ws k i start empty a b =
    let e : i / 64 ≡ k / 64 = omega (arith, start, a, b) in
    ap (λ (w : ℕ). bit_of i (slice_index ws (w + 1))) e ∙ ap (bit_of i) empty ∙ ap (λ (n : ℕ). not (n == 0)) (and_zero_l (2 ^ (i % 64)))

pub count_same : (f g : ℕ → Bool) (n : ℕ) → ((k : ℕ) → k < n → f k ≡ g k) → count_below f n ≡ count_below g n
count_same f g zero h = refl
count_same f g (suc n) h = rw (h n (omega arith)) (ap (λ (m : ℕ). cond (g n) 1 0 + m) (count_same f g n (λ k low. h k (omega arith))))
