use Rattle.storages.proofs.Slot.{key-of-mask}
use Rattle.storages.proofs.masked.MaskedStorage.mask.Goals as goal

pub returns : goal.returns
returns g c q = key-of-mask c.self.inside.mask.members (g.T.Storage.Kind.meaning c.self.inside.inner) c.self.invariant c.args.self.now c.self.view_is q
