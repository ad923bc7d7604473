use Rattle.saveload.proofs.Ids.{ids-insert}
use Rattle.saveload.specs.Told.IsTold.{start, same, put}
use Rattle.saveload.proofs.marker.put_marker.Goals as goal

pub returns-in-Ok-clause-ids : goal.returns-in-Ok-clause-ids
returns-in-Ok-clause-ids g c = ids-insert g.M.Marker.id_of c.args.storage.now c.put.new.self c.args.index c.args.marker c.in-Ok.ensures.ok.map

pub returns-in-Ok-clause-told : goal.returns-in-Ok-clause-told
returns-in-Ok-clause-told g c = put c.args.storage.now c.put.new.self c.args.index c.args.marker start c.in-Ok.ensures.ok

pub returns-clause-told : goal.returns-clause-told
returns-clause-told g c = same c.args.storage.now c.put.new.self start c.in-Err.ensures.err
