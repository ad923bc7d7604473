use Rattle.composed.specs.declared.only.Sole.TheVariants.{Sole}
use Rattle.composed.proofs.only.OnlyStorages.drop_all.Goals as goal

pub drop_all-requires : goal.drop_all-requires
drop_all-requires g c = c.requires Sole
