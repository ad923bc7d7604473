use Rattle.std.proofs.Common.{refl}
use Rattle.specs.proofs.Kept.{marks_one}
use Rattle.specs.proofs.builder.lazy_builder.push_or_mark.Goals as goal

pub returns-in-Err-clause-err : goal.returns-in-Err-clause-err
returns-in-Err-clause-err g c = record { core = marks_one _ _ c.args.entity c.mark_if_alive.ensures refl refl; queue = c.in-Err.ensures.err }
