use denote.Param.Send.{sendable}
use Rattle.std.proofs.Crossing.{crosses}
use Rattle.entities.specs.Sharing.{board_sync}
use Rattle.entities.proofs.phase.shared.Shared.TheSendSync as opened
use Rattle.phase_threads.proofs.run.take_turns.Goals as goal

pub for_each_mut-requires-sync-F : goal.for_each_mut-requires-sync-F
for_each_mut-requires-sync-F g c κs within =
    search (opened.the_sync, board_sync, crosses, sendable) depth 60 fits 20000
