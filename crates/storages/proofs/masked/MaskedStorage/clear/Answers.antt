use Rattle.std.proofs.lemmas.Bool.{false≢true}
use Rattle.storages.proofs.Slot.{cleared-slot, cleared-masks, room-of-all}
use Rattle.storages.proofs.masked.MaskedStorage.clear.Goals as goal

pub returns-in_err-clean-clause-succeeds : goal.returns-in_err-clean-clause-succeeds
returns-in_err-clean-clause-succeeds g c room = absurd (false≢true (c.in_err-clean.ensures.succeeds (room-of-all c.self.inside.mask.members (g.T.Storage.Kind.meaning c.self.inside.inner) c.self.invariant c.args.self.now c.self.view_is room)))

pub invariant_of-self-2 : goal.invariant_of-self-2
invariant_of-self-2 g c = cleared-masks c.self.inside.mask.members (g.T.Storage.Kind.meaning c.self.inside.inner) c.self.invariant c.args.self.now c.self.view_is _ _ _ c.clear.ensures.members c.in_ok-clean.ensures.ok

pub returns-clause-ok : goal.returns-clause-ok
returns-clause-ok g c = cleared-slot c.self.inside.mask.members (g.T.Storage.Kind.meaning c.self.inside.inner) c.self.invariant c.args.self.now c.self.view_is _ _ c.clear.ensures.members c.in_ok-clean.ensures.ok
