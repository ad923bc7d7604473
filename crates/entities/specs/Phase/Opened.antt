-- The parts of an opened phase.
use Rattle.entities.specs.declared.phase.board.Board.{Board}
use Rattle.entities.specs.declared.phase.shared.Shared.{Shared}
use Rattle.entities.specs.Census.{Census}
use Rattle.entities.specs.Phase.Trace.{Phase}
use Rattle.entities.specs.Phase.Plan.{phase_of}

-- the entities as they were at the opening
abbrev pub entities_of : Shared Board → Census
entities_of opened = opened.entities.now

-- what its passes make their steps on
abbrev pub board_of : Shared Board → Board
board_of opened = opened.board

-- what it was opened with
abbrev pub phase_opened : Shared Board → Phase
phase_opened opened = phase_of opened.board.plan
