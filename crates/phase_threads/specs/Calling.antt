-- Closures as turns.
use Rattle.std.specs.Prelude.{◌≡◌}
use Rattle.std.specs.Borrow.{Bor, MutBor}
use Rattle.entities.specs.declared.phase.board.Board.{Board}
use Rattle.entities.specs.declared.phase.pass.Pass.{Pass}
use Rattle.entities.specs.declared.phase.shared.Shared as shared
use Rattle.entities.specs.Phase.Trace.{Phase}
use Rattle.entities.specs.Phase.Board.{IsPassOf}
use Rattle.entities.specs.Phase.Opened.{entities_of, board_of, phase_opened}
use Rattle.entities.specs.Phase.Calls.{IsOpen}
use Rattle.entities.specs.Phase.Given.{IsBlank}

abbrev pub OpenPhase : Type 0
OpenPhase = shared.Shared Board

-- the phase is open, and the pass is of it and has made no call
pub record MayCall (phase : OpenPhase) (pass : Pass) : Type 0 where
  pub is_open : IsOpen (entities_of phase) (board_of phase)
  pub of_phase : IsPassOf (board_of phase) pass
  pub blank : IsBlank (phase_opened phase) pass

-- it may be called with an open phase and a new pass of it
abbrev pub TakesPasses : (Bor OpenPhase → MutBor Pass → Type 0) → Type 0
TakesPasses pre = (s : Bor OpenPhase) (p : MutBor Pass) → MayCall s.now p.now → pre s p

-- and leaves the pass a pass of it
abbrev pub KeepsPasses : {A : Type 0} → (Bor OpenPhase → MutBor Pass → A → MutBor Pass → Type 0) → Type 0
KeepsPasses {A} post = (s : Bor OpenPhase) (p q : MutBor Pass) (a : A) → MayCall s.now p.now → post s p a q → IsPassOf (board_of s.now) q.now

-- a call with a new pass may answer this, and leave the pass so
pub record CameOf {A : Type 0} (post : Bor OpenPhase → MutBor Pass → A → MutBor Pass → Type 0) (phase : Phase) (pass : Pass) (answer : A) : Type 0 where
  pub shared : Bor OpenPhase
  pub before : MutBor Pass
  pub after : MutBor Pass
  pub is_it : phase_opened shared.now ≡ phase
  pub may : MayCall shared.now before.now
  pub call : post shared before answer after
  pub left : after.now ≡ pass
