use Rattle.specs.proofs.Lasting.{gone_run}
use Rattle.specs.proofs.laws.stays_dead.Goals as goal

pub returns : goal.returns
returns g c = λ old new commands replies e. gone_run g.S.Held.place g.S.CloneStorages.clones g.S.Held.marks g.J.WorldJob.does g.J.WorldJob.wants g.met.J.WorldJob.grows commands replies old new e
