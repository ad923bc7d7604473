-- A phase from its opening to its close.
use Rattle.std.specs.Prelude.{◌≡◌, ℕ, ◌<◌, true, List, length, slice_index_or}
use Rattle.std.specs.List.{AllZip}
use Rattle.entities.specs.declared.phase.pass.Pass.{Pass}
use Rattle.entities.specs.declared.phase.shared.Closed.{Closed}
use Rattle.entities.specs.Population.{Population}
use Rattle.entities.specs.Phase.Reserve.{IsReserve}
use Rattle.entities.specs.Phase.Trace.{Phase}
use Rattle.entities.specs.Phase.Board.{record_of, is_spent}
use Rattle.entities.specs.Phase.Calls.{EveryOrderIsSound, IsClosed}
use Rattle.entities.specs.Phase.Given.{AreGivenOnce, AreTakenUp, AreAllTheirs}

-- A phase was closed by all of its passes: it came from the population before to the one after, and each pass answered what is true of it
pub record RanTo {A : Type 0} (tells : Phase → Pass → A → Type 0) (phase : Phase) (before after : Population) (closed : Closed) (answers : List A) : Type 0 where
  -- the passes, as their turns left them
  pub ends : List Pass
  pub came_back : length ends ≡ phase.passes
  pub told : AllZip (tells phase) ends answers
  pub closes : IsClosed phase (record_of ends) before after closed.births closed.marks
  pub once : AreGivenOnce phase ends
  pub taken_up : AreTakenUp phase ends after
  pub theirs : AreAllTheirs phase ends before after
  pub used_up : (k : ℕ) (d : Pass) → k < length ends → is_spent (slice_index_or ends k d) ≡ true → closed.births ≡ length phase.reserve

-- A phase was opened over the population before, with a reserve of so many and so many passes, and ran to the population after
pub record RanAPhase {A : Type 0} (tells : Phase → Pass → A → Type 0) (reserve passes : ℕ) (before after : Population) (closed : Closed) (answers : List A) : Type 0 where
  pub phase : Phase
  pub opening : phase.opening ≡ before
  pub sizes : (length phase.reserve ≡ reserve) × (phase.passes ≡ passes)
  pub next_births : IsReserve before phase.reserve
  pub sound : EveryOrderIsSound phase
  pub ran : RanTo tells phase before after closed answers
