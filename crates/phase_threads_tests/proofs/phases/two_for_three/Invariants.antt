use Rattle.std.specs.List.{All}
use Rattle.entities.specs.Phase.Board.{IsPassOf}
use Rattle.entities.specs.Phase.Opened.{entities_of, board_of}
use Rattle.entities.specs.Phase.Calls.{IsOpen}
use Rattle.phase_threads_tests.proofs.phases.two_for_three.Given as goal

abbrev pub invariant-loop-pass : goal.invariant-loop-pass
invariant-loop-pass l = record {
  opened : IsOpen (entities_of l.shared) (board_of l.shared);
  passes : All (IsPassOf (board_of l.shared)) l.pass-items;
}
