use Rattle.saveload.proofs.Giving.{gives_ids}
use Rattle.saveload.proofs.laws.loads_give_ids.Goals as goal

pub returns : goal.returns
returns g c = gives_ids g.M.Marker.id_of g.M.Identifier.PartialEq.eq g.met.M.Marker.same_ids g.P.DeserializeComponents.conversion
