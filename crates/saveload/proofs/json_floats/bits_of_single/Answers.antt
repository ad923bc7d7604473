use Rattle.std.specs.Float.Ieee.{binary32}
use Rattle.saveload.proofs.Floats.{bits_back}
use Rattle.saveload.proofs.json_floats.bits_of_single.Goals as goal

pub returns-clause-back : goal.returns-clause-back
returns-clause-back c = rw c.f32_to_bits_with_nan.ensures (bits_back binary32 c.args.float c.well_formed.0.1)
