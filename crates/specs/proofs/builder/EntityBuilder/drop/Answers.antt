use Rattle.std.proofs.Common.{refl}
use Rattle.specs.proofs.Kept.{marks_one}
use Rattle.specs.proofs.builder.EntityBuilder.drop.Goals as goal

pub returns-clause-lasts : goal.returns-clause-lasts
returns-clause-lasts g c = marks_one _ _ _ c.mark_if_alive.ensures refl refl
