use Rattle.std.proofs.Common.{sym, ◌∙◌}
use Rattle.storages.proofs.Slot.{present-of-some, at-of-some, removed-slot, removed-masks}
use Rattle.storages.proofs.masked.MaskedStorage.remove_present.Goals as goal

pub remove-requires : goal.remove-requires
remove-requires g c = present-of-some c.self.inside.mask.members (g.T.Storage.Kind.meaning c.self.inside.inner) c.self.invariant c.args.self.now c.self.view_is c.args.id c.requires

pub invariant_of-self-2 : goal.invariant_of-self-2
invariant_of-self-2 g c = removed-masks c.self.inside.mask.members (g.T.Storage.Kind.meaning c.self.inside.inner) c.self.invariant c.args.self.now c.self.view_is _ _ c.args.id c.remove-2.ensures.members c.in_ok-value.ensures.ok

pub returns-clause-value : goal.returns-clause-value
returns-clause-value g c = sym (at-of-some c.self.inside.mask.members (g.T.Storage.Kind.meaning c.self.inside.inner) c.self.invariant c.args.self.now c.self.view_is c.args.id c.requires) ∙ c.in_ok-value.ensures.value

pub returns-clause-ok : goal.returns-clause-ok
returns-clause-ok g c = removed-slot c.self.inside.mask.members (g.T.Storage.Kind.meaning c.self.inside.inner) c.self.invariant c.args.self.now c.self.view_is _ _ c.args.id c.remove-2.ensures.members c.in_ok-value.ensures.ok
