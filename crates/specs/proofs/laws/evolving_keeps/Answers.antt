use Rattle.specs.proofs.Lasting.{grown}
use Rattle.specs.proofs.Loading.{evolved_gone}
use Rattle.specs.proofs.laws.evolving_keeps.Goals as goal

pub returns-clause-living : goal.returns-clause-living
returns-clause-living g c = λ old new evolves values w. grown old new evolves w (values w.values)

pub returns-clause-gone : goal.returns-clause-gone
returns-clause-gone g c = evolved_gone
