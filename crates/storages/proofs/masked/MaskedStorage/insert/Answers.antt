use Rattle.std.proofs.Common.{ap, ◌∙◌}
use Rattle.std.specs.Ordering.{nat_cmp}
use Rattle.std.specs.FinSet as set
use Rattle.storages.proofs.Results.{ok_of_not_err, on_ok}
use Rattle.storages.proofs.Slot.{free-of-none, inserted-slot, inserted-masks}
use Rattle.storages.proofs.masked.MaskedStorage.insert.Goals as goal

pub insert-requires-clause-free : goal.insert-requires-clause-free
insert-requires-clause-free g c = free-of-none c.self.inside.mask.members (g.T.Storage.Kind.meaning c.self.inside.inner) c.self.invariant c.args.self.now c.self.view_is c.args.id c.requires.absent

pub invariant_of-self-2 : goal.invariant_of-self-2
invariant_of-self-2 g c =
    let room = on_ok c.reserve_for.result _ (ok_of_not_err c.reserve_for.result c.if-is_err.ensures.value) c.reserve_for.ensures.ok in
    let added = on_ok c.add.result _ (c.add.ensures.had_room room.0) c.add.ensures.members in
    inserted-masks c.self.inside.mask.members (g.T.Storage.Kind.meaning c.self.inside.inner) c.self.invariant c.args.self.now c.self.view_is _ _ c.args.id c.args.value
    (added ∙ ap (λ (s : set.FinSet nat_cmp). set.insert s c.args.id) c.reserve_for.ensures.members) c.in-Ok.ensures.ok

pub returns-clause-ok : goal.returns-clause-ok
returns-clause-ok g c =
    let room = on_ok c.reserve_for.result _ (ok_of_not_err c.reserve_for.result c.if-is_err.ensures.value) c.reserve_for.ensures.ok in
    let added = on_ok c.add.result _ (c.add.ensures.had_room room.0) c.add.ensures.members in
    inserted-slot c.self.inside.mask.members (g.T.Storage.Kind.meaning c.self.inside.inner) c.self.invariant c.args.self.now c.self.view_is _ _ c.args.id c.args.value
    (added ∙ ap (λ (s : set.FinSet nat_cmp). set.insert s c.args.id) c.reserve_for.ensures.members) c.in-Ok.ensures.ok
