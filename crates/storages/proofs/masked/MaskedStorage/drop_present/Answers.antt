use Rattle.storages.proofs.Slot.{present-of-some, removed-slot, removed-masks}
use Rattle.storages.proofs.masked.MaskedStorage.drop_present.Goals as goal

pub drop-requires-clause-present : goal.drop-requires-clause-present
drop-requires-clause-present g c = present-of-some c.self.inside.mask.members (g.T.Storage.Kind.meaning c.self.inside.inner) c.self.invariant c.args.self.now c.self.view_is c.args.id c.requires.present

pub invariant_of-self : goal.invariant_of-self
invariant_of-self g c = removed-masks c.self.inside.mask.members (g.T.Storage.Kind.meaning c.self.inside.inner) c.self.invariant c.args.self.now c.self.view_is _ _ c.args.id c.remove.ensures.members c.drop.ensures

pub returns : goal.returns
returns g c = removed-slot c.self.inside.mask.members (g.T.Storage.Kind.meaning c.self.inside.inner) c.self.invariant c.args.self.now c.self.view_is _ _ c.args.id c.remove.ensures.members c.drop.ensures
