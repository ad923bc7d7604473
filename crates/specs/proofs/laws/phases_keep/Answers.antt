use Rattle.specs.proofs.Phases.{phase_gone, phase_living}
use Rattle.specs.proofs.laws.phases_keep.Goals as goal

pub returns-clause-living : goal.returns-clause-living
returns-clause-living g c = phase_living

pub returns-clause-gone : goal.returns-clause-gone
returns-clause-gone g c = phase_gone
