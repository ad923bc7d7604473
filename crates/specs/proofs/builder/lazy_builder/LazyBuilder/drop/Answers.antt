use Rattle.std.proofs.Common.{refl}
use Rattle.specs.proofs.Kept.{marks_one}
use Rattle.specs.proofs.builder.lazy_builder.LazyBuilder.drop.Goals as goal

pub returns : goal.returns
returns g c = record { core = marks_one _ _ _ c.mark_if_alive.ensures refl refl; queue = refl }
