-- What a cursor can still give of what is beside it.
use Rattle.std.specs.Prelude.{ℕ, ◌≤◌, Bool, true, false, Option, Some, None}
use Rattle.hibits.specs.WalkOf.{position}
use Rattle.hibits.specs.declared.layers.Layers as layers
use Rattle.joins.specs.declared.join.Join as join
use Rattle.joins.specs.declared.cursors.steps.Steps.{Steps}

-- the first index at which it can: where the cursor stands, or from the next on once that was given
abbrev pub first_to_give : Bool → Option ℕ → ℕ → ℕ
first_to_give true here next = next
first_to_give false None next = next
first_to_give false (Some i) next = i

module _ {J X V M : Type 0} {j : join.Ghosts J X V M} {l : layers.Ghosts M} where
  -- r is what stands beside the index, which was neither passed nor given
  pub record Gives (s : Steps J X V M j l) (i : ℕ) (r : X) : Type 0 where
    pub ahead : first_to_give s.given s.current (position s.walk) ≤ i
    pub value : j.value_gives s.values i r
