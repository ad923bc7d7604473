use Rattle.std.proofs.Common.{◌∙◌}
use Rattle.storages.proofs.Slot.{key-of-mask}
use Rattle.storages.proofs.masked.MaskedStorage.contains.Goals as goal

pub returns : goal.returns
returns g c = c.contains.ensures.value ∙ key-of-mask c.self.inside.mask.members (g.T.Storage.Kind.meaning c.self.inside.inner) c.self.invariant c.args.self.now c.self.view_is c.args.id
