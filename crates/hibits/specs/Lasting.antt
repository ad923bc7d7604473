-- A walk goes on while what it passed changes.
use Rattle.std.proofs.Common.{◌≡◌, ℕ, Bool, ◌≤◌, ◌<◌, ◌+◌, ◌*◌, ◌^◌, true, arith, ap, ◌∙◌}
use Rattle.std.specs.Prelude.{slice_index, min, ◌-◌}
use Rattle.hibits.specs.Walks.{walked}
use Rattle.hibits.specs.declared.walk.Walk.{Walk}
use Rattle.hibits.specs.declared.limits.TheConstants.{LAYERS}
use Rattle.hibits.specs.WalkOf.{IsWalkOf, from_of}

no_cost : (a b : ℕ) → min (0 * a) (2 ^ 64 - 1) ≡ min (0 * b) (2 ^ 64 - 1)
no_cost a b = let e : 0 * a ≡ 0 * b = omega arith in ap (λ n. min n (2 ^ 64 - 1)) e

-- where layers lose nothing that is left to walk, and gain nothing
module _ (p p' : ℕ → ℕ → Bool) (w : Walk) (fewer : (l i : ℕ) → p' l i ≡ true → p l i ≡ true) (keep : (l i : ℕ) → l < LAYERS → slice_index (from_of w) l ≤ i → p l i ≡ true → p' l i ≡ true) where
  pub goes_on : IsWalkOf p 0 w → IsWalkOf p' 0 w
  goes_on h = record {
    walk = record {
      words_len = h.walk.words_len;
      from_len = h.walk.from_len;
      top = h.walk.top;
      level = λ l lt. let v = h.walk.level l lt in record {
        fits = v.fits;
        below = v.below;
        left = λ i ge b has. v.left i ge b (fewer l i has);
        right = λ j jl bit. let r = v.right j jl bit in (r.0, r.1, keep l _ lt r.1 r.2);
      };
      reads = h.walk.reads ∙ no_cost (walked p (from_of w) (LAYERS - 1) + 1) (walked p' (from_of w) (LAYERS - 1) + 1);
    };
    end0 = h.end0;
    end1 = h.end1;
    end2 = h.end2;
    end3 = h.end3;
  }
