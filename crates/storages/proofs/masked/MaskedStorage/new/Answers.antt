use Rattle.storages.proofs.Slot.{masks-new, map-new}
use Rattle.storages.proofs.masked.MaskedStorage.new.Goals as goal

pub invariant_of-result : goal.invariant_of-result
invariant_of-result g c = masks-new _ _ c.new.ensures.members c.requires

pub returns-clause-map : goal.returns-clause-map
returns-clause-map g c = map-new c.new.result.members (g.T.Storage.Kind.meaning c.args.inner) c.new.ensures.members
