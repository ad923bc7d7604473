use Rattle.std.proofs.Common.{ap, is_some}
use Rattle.std.specs.Result.{is_ok}
use Rattle.storages.proofs.Slot.{put_there}
use Rattle.storages.proofs.entry.OccupiedEntry.insert.Goals as goal

pub invariant_of-self : goal.invariant_of-self
invariant_of-self g c =
    let w = c.present_mut.follows.holds c.replace.new.dest in
    record { present = ap is_some (put_there _ _ c.args.self.now.id c.replace.new.dest (w.becomes (ap is_ok c.in-Ok.is)).map); within = c.args.self.now.within }
