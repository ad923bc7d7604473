-- What a pass of an opened phase is.
use Rattle.std.specs.Prelude.{◌≡◌, ℕ, Bool, true, false, List, [], ◌∷◌, ◌++◌, length, ◌<◌, ◌+◌, flat_map}
use Rattle.atomic_table.specs.Seated.{TableId}
use Rattle.entities.specs.declared.phase.trace.Step.{Step}
use Rattle.entities.specs.declared.phase.trace.Line.{Line}
use Rattle.entities.specs.declared.phase.board.Board.{Board}
use Rattle.entities.specs.declared.phase.pass.Pass.{Pass}
use Rattle.entities.specs.Phase.Trace.{AreCalls, misses}
use Rattle.entities.specs.Phase.Rule.{line, IsOne, number_of, steps_in}
use Rattle.entities.specs.Phase.Plan.{phase_of}

abbrev pub steps_of_pass : Pass → List Step
steps_of_pass pass = steps_in pass.record.me.0

abbrev pub number_of_pass : Pass → ℕ
number_of_pass pass = number_of pass.record.me.0

-- it found the reserve used up, and is given no more
abbrev pub is_spent : Pass → Bool
is_spent pass = pass.spent

-- The pass is of this phase
pub record IsPassOf (board : Board) (pass : Pass) : Type 0 where
  pub table : pass.record.table_id ≡ board.words.shared.table_id
  pub bare : pass.record.me.1 ≡ []
  pub one : IsOne pass.record.me.0
  pub calls : AreCalls (phase_of board.plan) (steps_of_pass pass)
  pub fresh : pass.spent ≡ false → misses (length board.plan.reserve.items) (steps_of_pass pass) ≡ 0
  -- one that is spent has drawn a ticket past the reserve
  pub used : pass.spent ≡ true → 0 < misses (length board.plan.reserve.items) (steps_of_pass pass)

-- the pass after these steps more
pub record IsNext (old new : Pass) (added : List Step) : Type 0 where
  pub table : new.record.table_id ≡ old.record.table_id
  pub bare : new.record.me.1 ≡ []
  pub one : IsOne new.record.me.0
  pub number : number_of_pass new ≡ number_of_pass old
  pub steps : steps_of_pass new ≡ steps_of_pass old ++ added

-- passes k, k + 1, .. of a table, which have made no step
abbrev pub AreDealt : TableId → ℕ → List Pass → Type 0
AreDealt z k [] = Unit {0}
AreDealt z k (x ∷ xs) = (x.record.table_id ≡ z) × (x.record.me ≡ (line k [] ∷ [], [])) × (x.spent ≡ false) × AreDealt z (k + 1) xs

-- passes k, k + 1, .. of this phase, which have made no step
abbrev pub AreFresh : Board → ℕ → List Pass → Type 0
AreFresh board k [] = Unit {0}
AreFresh board k (x ∷ xs) = IsPassOf board x × (number_of_pass x ≡ k) × (steps_of_pass x ≡ []) × (x.spent ≡ false) × AreFresh board (k + 1) xs

-- the record of the passes that came back
abbrev pub record_of : List Pass → List Line
record_of passes = flat_map (λ p. p.record.me.0) passes

-- the pass is of this table, and holds no slot
abbrev pub IsHome : TableId → Pass → Type 0
IsHome z pass = (pass.record.table_id ≡ z) × (pass.record.me.1 ≡ [])
