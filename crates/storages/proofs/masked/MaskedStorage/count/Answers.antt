use Rattle.storages.proofs.Slot.{count-of}
use Rattle.storages.proofs.masked.MaskedStorage.count.Goals as goal

pub returns : goal.returns
returns g c = count-of c.self.inside.mask.members (g.T.Storage.Kind.meaning c.self.inside.inner) c.self.invariant c.args.self.now c.self.view_is _ c.count.ensures.walk
