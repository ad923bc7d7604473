use Rattle.storages.proofs.Slot.{none-of-empty, empty-of-none}
use Rattle.storages.proofs.masked.MaskedStorage.is_empty.Goals as goal

pub returns : goal.returns
returns g c = (λ h. none-of-empty c.self.inside.mask.members (g.T.Storage.Kind.meaning c.self.inside.inner) c.self.invariant c.args.self.now c.self.view_is (c.is_empty.ensures.0 h), λ h. c.is_empty.ensures.1 (empty-of-none c.self.inside.mask.members (g.T.Storage.Kind.meaning c.self.inside.inner) c.self.invariant c.args.self.now c.self.view_is h))
