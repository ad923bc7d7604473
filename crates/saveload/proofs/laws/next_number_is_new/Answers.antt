use Rattle.saveload.proofs.Giving.{next_is_new}
use Rattle.saveload.proofs.laws.next_number_is_new.Goals as goal

pub returns : goal.returns
returns g c = next_is_new g.P.DeserializeComponents.conversion
