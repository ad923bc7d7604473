use Rattle.specs.proofs.Loading.{loaded_whole, loaded_until}
use Rattle.specs.proofs.laws.loads_keep.Goals as goal

pub returns-clause-whole : goal.returns-clause-whole
returns-clause-whole g c = λ old new rs. loaded_whole g.M.Identifier.PartialEq.eq g.M.Marker.id_of g.P.DeserializeComponents.conversion rs old new

pub returns-clause-refused : goal.returns-clause-refused
returns-clause-refused g c = λ old new rs. loaded_until g.M.Identifier.PartialEq.eq g.M.Marker.id_of g.P.DeserializeComponents.conversion g.P.DeserializeComponents.Partly rs old new
