use Rattle.composed.specs.declared.only.Sole.TheVariants.{Sole}
use Rattle.composed.proofs.only.OnlyStorages.reserve_drop.Goals as goal

pub returns-clause-unheard : goal.returns-clause-unheard
returns-clause-unheard g c = λ quiet. c.reserve_drop.ensures.unheard (quiet Sole)
