-- Passes at their turns, and what they answered.
use Rattle.std.specs.Prelude.{◌≡◌, ◌≤◌, Option, List, [], map, reverse, IsSomeAnd, vec_len, vec_capacity}
use Rattle.entities.specs.declared.phase.board.Board.{Board}
use Rattle.entities.specs.declared.phase.pass.Pass.{Pass}
use Rattle.entities.specs.Phase.Trace.{Phase}
use Rattle.entities.specs.Phase.Board.{IsPassOf}
use Rattle.phase_threads.specs.declared.seats.Seat.{Seat}
use Rattle.phase_threads.specs.declared.seats.Seats.{Seats}

-- the passes, the last one that was seated first
abbrev pub passes_of : {A : Type 0} → List (Seat A) → List Pass
passes_of seats = map (λ s. s.pass) (reverse seats)

-- their answers, in the same order
abbrev pub answers_of : {A : Type 0} → List (Seat A) → List (Option A)
answers_of seats = map (λ s. s.answer) (reverse seats)

-- the passes and the answers can be parted without memory
pub record HasRoom {A : Type 0} (s : Seats A) : Type 0 where
  pub for_passes : vec_len s.taken ≤ vec_capacity s.passes
  pub for_answers : vec_len s.taken ≤ vec_capacity s.answers
  pub no_passes : s.passes.items ≡ []
  pub no_answers : s.answers.items ≡ []

-- its pass is of this phase, and has an answer that tells the truth of it
pub record TookTurn {A : Type 0} (tells : Phase → Pass → A → Type 0) (board : Board) (phase : Phase) (s : Seat A) : Type 0 where
  pub pass : IsPassOf board s.pass
  pub told : IsSomeAnd s.answer (λ a. tells phase s.pass a)
