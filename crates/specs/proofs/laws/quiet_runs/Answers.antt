use Rattle.specs.proofs.Following.{followed_run}
use Rattle.specs.proofs.laws.quiet_runs.Goals as goal

pub returns : goal.returns
returns g c = λ slot n old new commands replies run quiet watched.
    followed_run slot n (λ s. g.S.Slot.PartialEq.eq s slot) (λ s. g.met.S.Storages.exact s slot) g.S.Held.place g.S.CloneStorages.clones g.S.Held.marks g.J.WorldJob.does g.J.WorldJob.wants g.J.WorldJob.spares g.met.J.WorldJob.tells commands replies old new run quiet watched
