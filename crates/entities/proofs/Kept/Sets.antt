-- Sets of indices, and equal populations.
use Rattle.std.proofs.Common.{◌≡◌, ℕ, Bool, true, false, not, ◌&&◌, ◌||◌, eqb, get_or, pos, cond, List, [], refl, ap, ◌∙◌}
use Rattle.std.specs.Ordering.{nat_cmp}
use Rattle.std.specs.Cmp.{nat_cmp_total, unsigned_tied}
use Rattle.std.specs.FinSet as set
use mathlib.Core.Path.{fun_ext}
use Rattle.std.specs.Prelude.{Result, Ok, Err, is_ok, OnOk}
use Rattle.entities.specs.Population.{Population, lives, is_free, NoneFree}
use Rattle.entities.specs.Census.{Census, population, living_of, births_of, has}
use Rattle.entities.specs.Kept.{free_at, IsStacked}
use Rattle.std.specs.Prelude.{nat_lt}

pub same_population : (p q : Population) → ((i : ℕ) → p.births i ≡ q.births i) → ((i : ℕ) → p.merged i ≡ q.merged i) → ((i : ℕ) → p.pending i ≡ q.pending i) → ((i : ℕ) → p.marked i ≡ q.marked i) → p ≡ q
same_population p q b m r k = λ t. record { births = fun_ext b t; merged = fun_ext m t; pending = fun_ext r t; marked = fun_ext k t }

pub lives_is : (c : Census) (i : ℕ) → lives (population c) i ≡ living_of c.generations i
lives_is c i = split (living_of c.generations i) (has c.raised i)
  where
    split : (a b : Bool) → ((a && not b) || (a && b)) ≡ a
    split true true = refl
    split true false = refl
    split false b = refl

pub has-insert : (s : set.FinSet nat_cmp) (i j : ℕ) → set.contains (set.insert s i) j ≡ (eqb j i || set.contains s j)
has-insert s i j = set.contains-insert nat_cmp_total s i j ∙ ap (λ b. b || set.contains s j) (unsigned_tied j i)

pub has-remove : (s : set.FinSet nat_cmp) (i j : ℕ) → set.contains (set.remove s i) j ≡ (not (eqb j i) && set.contains s j)
has-remove s i j = set.contains-remove nat_cmp_total s i j ∙ ap (λ b. not b && set.contains s j) (unsigned_tied j i)

pub free_is : (c : Census) (i : ℕ) → is_free (population c) i ≡ free_at (get_or c.generations i (pos 0))
free_is c i = ap (λ b. not b && (nat_lt 0 (births_of c.generations i) && nat_lt (births_of c.generations i) 2147483647)) (lives_is c i)

pub on_ok : {T E P : Type 0} (r : Result T E) → is_ok r ≡ true → OnOk r P → P
on_ok (Ok x) ok p = p
on_ok (Err e) ok p = cc

none_at : (b : Bool) → ◌≡◌ {A = ℕ} 0 (cond b 1 0) → b ≡ false
none_at true e = cc
none_at false e = refl

-- where the stack is empty no index is free
pub none_free : (c : Census) (free : List ℕ) → IsStacked c.generations free → free ≡ [] → NoneFree (population c)
none_free c free k e i = free_is c i ∙ none_at (free_at (get_or c.generations i (pos 0))) (rw e at (k.listed i))
