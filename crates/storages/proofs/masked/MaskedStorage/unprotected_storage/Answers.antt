use Rattle.storages.proofs.Slot.{at-of-some, free-of-none}
use Rattle.storages.proofs.masked.MaskedStorage.unprotected_storage.Goals as goal

pub returns-clause-present : goal.returns-clause-present
returns-clause-present g c q h = at-of-some c.self.inside.mask.members (g.T.Storage.Kind.meaning c.self.inside.inner) c.self.invariant c.args.self.now c.self.view_is q h

pub returns-clause-absent : goal.returns-clause-absent
returns-clause-absent g c q h = free-of-none c.self.inside.mask.members (g.T.Storage.Kind.meaning c.self.inside.inner) c.self.invariant c.args.self.now c.self.view_is q h
