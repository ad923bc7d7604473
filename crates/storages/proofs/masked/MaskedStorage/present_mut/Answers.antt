use Rattle.std.proofs.Common.{ap, ◌∙◌, refl, is_some, true, ◌≡◌}
use Rattle.std.specs.FinMap as map
use Rattle.std.specs.FinSet as set
use Rattle.storages.specs.Slot.{Slot}
use Rattle.storages.proofs.Slot.{there_of_some, writes-slot, refuses-slot, value-slot}
use Rattle.storages.proofs.masked.MaskedStorage.present_mut.Goals as goal

pub get_mut-requires : goal.get_mut-requires
get_mut-requires g c =
    c.self.invariant.present c.args.id (there_of_some c.self.inside.mask.members (g.T.Storage.Kind.meaning c.self.inside.inner) c.self.invariant c.args.id
    (ap (λ (s : Slot _). is_some (map.get s.map c.args.id)) c.self.view_is ∙ c.requires))

pub returns : goal.returns
returns g c =
    let m = g.T.Storage.Kind.meaning c.self.inside.inner in
    let there : set.contains c.self.inside.mask.members c.args.id ≡ true = there_of_some c.self.inside.mask.members m c.self.invariant c.args.id
    (ap (λ (s : Slot _). is_some (map.get s.map c.args.id)) c.self.view_is ∙ c.requires) in (
      (
        refl,
        (λ w. rw (← c.self.view_is) (writes-slot c.get_mut.result c.self.inside.mask.members m _ c.args.id w c.self.invariant there (c.get_mut.follows.holds w))),
        (rw (← c.self.view_is) (refuses-slot c.get_mut.result c.self.inside.mask.members m _ c.self.invariant c.get_mut.follows.holds-at-none)),
      ),
      record {
        writes_back = tt;
        value = rw (← c.self.view_is) (value-slot c.get_mut.result c.self.inside.mask.members m c.args.id there c.get_mut.ensures.value);
        succeeds = rw (← c.self.view_is) c.get_mut.ensures.succeeds;
      },
    )
