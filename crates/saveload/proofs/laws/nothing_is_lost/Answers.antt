use Rattle.saveload.proofs.Converting.{faithful_keeps}
use Rattle.saveload.proofs.laws.nothing_is_lost.Goals as goal

pub returns : goal.returns
returns g c = faithful_keeps g.V.ConvertSaveload.conversion g.met.V.ConvertSaveload.faithful
