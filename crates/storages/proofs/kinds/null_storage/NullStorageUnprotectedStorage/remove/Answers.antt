use Rattle.std.proofs.Common.{ap, Some}
use Rattle.storages.proofs.kinds.null_storage.NullStorageUnprotectedStorage.remove.Goals as goal

pub returns-clause-value : goal.returns-clause-value
returns-clause-value g c = ap Some (g.T.NullComponent.all_equal _ _)
