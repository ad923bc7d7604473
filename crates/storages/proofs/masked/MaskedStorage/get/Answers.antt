use Rattle.std.proofs.Common.{sym, ◌∙◌}
use Rattle.storages.proofs.Slot.{get-of-mask, none-of-mask}
use Rattle.storages.proofs.masked.MaskedStorage.get.Goals as goal

pub returns-then-contains : goal.returns-then-contains
returns-then-contains g c = sym c.get.ensures ∙ get-of-mask c.self.inside.mask.members (g.T.Storage.Kind.meaning c.self.inside.inner) c.self.invariant c.args.self.now c.self.view_is c.args.id (sym c.contains.ensures.value ∙ c.if-contains.true)

pub returns-else-contains : goal.returns-else-contains
returns-else-contains g c = sym (none-of-mask c.self.inside.mask.members (g.T.Storage.Kind.meaning c.self.inside.inner) c.self.invariant c.args.self.now c.self.view_is c.args.id (sym c.contains.ensures.value ∙ c.if-contains.false))
