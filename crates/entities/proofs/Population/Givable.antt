-- How many indices are free or unused, by the stack.
use Rattle.std.proofs.Common.{◌≡◌, ℕ, zero, suc, ◌+◌, ◌-◌, ◌<◌, ◌≤◌, Bool, true, false, ◌||◌, cond, eqb, List, [], ◌∷◌, length, get_or, pos, refl, ap, ◌∙◌, arith, inl, inr}
use Rattle.std.specs.List.{count_by}
use Rattle.std.proofs.lemmas.Bool.{cases_eq, ne_eqb, eq-eqb}
use Rattle.std.proofs.lemmas.List.Sums.{sum_by-cons}
use Rattle.hibits.specs.Counts.{count_below}
use Rattle.hibits.specs.declared.limits.TheConstants.{INDEX_LIMIT}
use Rattle.entities.specs.Census.{Census, population, births_of}
use Rattle.entities.specs.Population.{is_free}
use Rattle.entities.specs.Kept.{IsStacked, free_at}
use Rattle.entities.specs.Phase.Reserve.{givable}
use Rattle.entities.proofs.Kept.Sets.{free_is}
use Rattle.entities.proofs.Kept.Stack.{within, born_in, unborn_past}
use Rattle.entities.proofs.Population.Upcoming.{stack_free}

-- how often the numbers below n stand in a list
sums : List ℕ → ℕ → ℕ
sums xs zero = 0
sums xs (suc n) = count_by (λ x. eqb x n) xs + sums xs n

sums_none : (n : ℕ) → sums [] n ≡ 0
unfolding sums
sums_none zero = refl
sums_none (suc n) = let r = sums_none n in omega arith

sums_cons : (x : ℕ) (xs : List ℕ) (n : ℕ) → (n ≤ x → sums (x ∷ xs) n ≡ sums xs n) × (x < n → sums (x ∷ xs) n ≡ sums xs n + 1)
unfolding sums
sums_cons x xs zero = (λ _. refl, λ lt. absurd (omega arith))
sums_cons x xs (suc n) =
    let r = sums_cons x xs n in
    let c = sum_by-cons (λ (z : ℕ). cond (eqb z n) 1 0) x xs in
    elim (cases_eq x n) [
      | inl e ↦ let hit : cond {A = ℕ} (eqb x n) 1 0 ≡ 1 = rw (eq-eqb x n e) refl in (λ le. absurd (omega (arith, le, e)), λ lt. omega (arith, c, hit, r.0 (omega (arith, e))))
      | inr d ↦ let miss : cond {A = ℕ} (eqb x n) 1 0 ≡ 0 = rw (ne_eqb x n d) refl in (λ le. omega (arith, c, miss, r.0 (omega (arith, le))), λ lt. omega (arith, c, miss, r.1 (omega (arith, lt, d))))
    ]

sums_all : (xs : List ℕ) (n : ℕ) → ((k : ℕ) → k < length xs → get_or xs k 0 < n) → sums xs n ≡ length xs
sums_all [] n h = sums_none n
sums_all (x ∷ xs) n h = let r = sums_all xs n (λ k lt. h (suc k) (omega arith)) in omega (arith, (sums_cons x xs n).1 (h 0 (omega arith)), r)

can_be : Census → ℕ → Bool
can_be c i = is_free (population c) i || eqb (births_of c.generations i) 0

counted : (c : Census) (n : ℕ) → IsStacked c.generations c.free → n ≤ length c.generations → count_below (can_be c) n ≡ sums c.free n
unfolding sums can_be
counted c zero s le = refl
counted c (suc n) s le =
    let r = counted c n s (omega arith) in
    let free = free_is c n in
    let listed = s.listed n in
    let born = ne_eqb (births_of c.generations n) 0 (born_in c.generations c.free n s (omega arith)) in
    rw (born, free) (omega (arith, r, same (free_at (get_or c.generations n (pos 0))), listed))
  where
    same : (b : Bool) → cond {A = ℕ} (b || false) 1 0 ≡ cond b 1 0
    same true = refl
    same false = refl

past : (c : Census) (m : ℕ) → IsStacked c.generations c.free → count_below (can_be c) (length c.generations + m) ≡ length c.free + m
unfolding can_be
past c zero s =
    let e : length c.generations + 0 ≡ length c.generations = omega arith in
    rw e (counted c (length c.generations) s (omega arith) ∙ sums_all c.free (length c.generations) (λ k lt. within c.generations (get_or c.free k 0) (stack_free c.generations c.free k s lt)) ∙ omega arith)
past c (suc m) s =
    let r = past c m s in
    let e : length c.generations + suc m ≡ suc (length c.generations + m) = omega arith in
    let unborn = eq-eqb (births_of c.generations (length c.generations + m)) 0 (unborn_past c.generations (length c.generations + m) (omega arith)) in
    rw e (rw unborn (omega (arith, r, last (is_free (population c) (length c.generations + m)))))
  where
    last : (b : Bool) → cond {A = ℕ} (b || true) 1 0 ≡ 1
    last true = refl
    last false = refl

up_to : (c : Census) (n : ℕ) → IsStacked c.generations c.free → length c.generations ≤ n → count_below (can_be c) n ≡ length c.free + (n - length c.generations)
up_to c n s le = ap (count_below (can_be c)) (let e : n ≡ length c.generations + (n - length c.generations) = omega arith in e) ∙ past c (n - length c.generations) s

pub givable_is : (c : Census) → IsStacked c.generations c.free → length c.generations ≤ INDEX_LIMIT → givable (population c) ≡ length c.free + (INDEX_LIMIT - length c.generations)
unfolding givable can_be
givable_is c s le = up_to c INDEX_LIMIT s le
