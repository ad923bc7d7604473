use Rattle.storages.proofs.Null.{null-inserts}
use Rattle.storages.proofs.kinds.null_storage.NullStorageUnprotectedStorage.insert.Goals as goal

pub returns-clause-ok : goal.returns-clause-ok
returns-clause-ok g c = null-inserts g.T.NullComponent.all_equal c.args.self.now.value c.args.value c.args.value c.args._id
