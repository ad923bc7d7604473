use denote.Param.Send.{sendable}
use Rattle.std.proofs.Crossing.{crosses}
use Rattle.entities.specs.Sharing.{board_sync}
use Rattle.entities.proofs.phase.shared.Shared.TheSendSync as opened
use Rattle.pressed_tests.proofs.meeting.create_and_meet.Goals as goal

pub par_for_each_mut-requires-sync-F : goal.par_for_each_mut-requires-sync-F
par_for_each_mut-requires-sync-F g c κs within = search (opened.the_sync, board_sync, crosses, sendable) depth 60 fits 20000
