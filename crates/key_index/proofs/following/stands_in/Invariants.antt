use Rattle.std.proofs.Common.{◌≡◌, false, take}
use Rattle.storages.specs.Named.{is_named}
use Rattle.key_index.proofs.following.stands_in.Given as goal

abbrev pub invariant-loop-event : goal.invariant-loop-event
invariant-loop-event l = is_named l.id (take l.event-index l.events) ≡ false
