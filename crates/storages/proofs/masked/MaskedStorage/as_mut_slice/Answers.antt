use Rattle.std.proofs.Common.{refl}
use Rattle.storages.proofs.SliceLends.{get-with_slice, shows-slot, places-slot, rewrites-slot}
use Rattle.storages.proofs.masked.MaskedStorage.as_mut_slice.Goals as goal

pub returns : goal.returns
returns g c =
    let m = g.T.Storage.Kind.meaning c.self.inside.inner in
    let s = c.self.inside.mask.members in (
      (refl, (λ w. rw (← c.self.view_is) (rewrites-slot g.T.Storage.SliceAccess.item_at s m _ c.self.invariant _ (c.as_mut_slice.ensures.rewrites w)))),
      record {
        writes_back = tt;
        value = rw (← c.self.view_is) (c.as_mut_slice.ensures.value _ (shows-slot s m c.self.invariant));
        places = rw (← c.self.view_is) (places-slot g.T.Storage.SliceAccess.item_at s m c.self.invariant _ c.as_mut_slice.ensures.places);
        each = λ xs q. get-with_slice g.T.Storage.SliceAccess.item_at c.args.self.now xs q;
      },
    )
