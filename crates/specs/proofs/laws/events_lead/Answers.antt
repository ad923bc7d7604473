use Rattle.specs.proofs.Following.{follows_run, replays}
use Rattle.specs.proofs.laws.events_lead.Goals as goal

pub returns-clause-follows : goal.returns-clause-follows
returns-clause-follows g c = λ slot n old new commands replies run throughout living.
    follows_run slot n (λ s. g.S.Slot.PartialEq.eq s slot) (λ s. g.met.S.Storages.exact s slot) g.S.Held.place g.S.CloneStorages.clones g.S.Held.marks g.J.WorldJob.does g.J.WorldJob.wants g.J.WorldJob.spares g.met.J.WorldJob.tells g.met.J.WorldJob.grows g.met.J.WorldJob.lives commands replies old new run throughout living

pub returns-clause-replays : goal.returns-clause-replays
returns-clause-replays g c = λ slot n old new commands replies run throughout living.
    replays slot n _ (λ s. g.met.S.Storages.exact s slot) old.core new.core _ (returns-clause-follows g c slot n old new commands replies run throughout living)
