use Rattle.std.specs.Float.Ieee.{binary64}
use Rattle.saveload.proofs.Floats.{bits_back}
use Rattle.saveload.proofs.json_floats.bits_of_double.Goals as goal

pub returns-clause-back : goal.returns-clause-back
returns-clause-back c = rw c.f64_to_bits_with_nan.ensures (bits_back binary64 c.args.float c.well_formed.0.1)
