use Rattle.saveload.proofs.Renaming.{one_renaming}
use Rattle.saveload.proofs.laws.one_renaming.Goals as goal

pub returns : goal.returns
returns g c = one_renaming g.M.Marker.id_of g.M.Identifier.PartialEq.eq g.met.M.Marker.same_ids g.P.DeserializeComponents.conversion g.met.P.DeserializeComponents.faithful
