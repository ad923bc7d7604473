use Rattle.specs.proofs.Lasting.{living_run}
use Rattle.specs.specs.Laws.Living.{begins}
use Rattle.specs.proofs.laws.only_living.Goals as goal

pub returns-clause-kept : goal.returns-clause-kept
returns-clause-kept g c = λ old new commands replies. living_run g.S.Held.place g.S.CloneStorages.clones g.S.Held.marks g.J.WorldJob.does g.J.WorldJob.wants g.met.J.WorldJob.grows g.met.J.WorldJob.lives commands replies old new

pub returns-clause-from_new : goal.returns-clause-from_new
returns-clause-from_new g c = λ old new commands replies is_new run. returns-clause-kept g c old new commands replies run (begins old.core is_new)
