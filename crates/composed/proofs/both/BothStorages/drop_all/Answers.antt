use Rattle.composed.specs.declared.either.Either.TheVariants.{First, Rest}
use Rattle.composed.proofs.both.BothStorages.drop_all.Goals as goal

pub drop_all-requires : goal.drop_all-requires
drop_all-requires g c = λ s. c.requires (First s)

pub drop_all-requires-2 : goal.drop_all-requires-2
drop_all-requires-2 g c = λ s. c.requires (Rest s)
