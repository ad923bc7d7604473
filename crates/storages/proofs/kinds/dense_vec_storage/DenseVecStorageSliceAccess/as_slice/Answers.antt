use Rattle.std.proofs.Common.{sym, subst, List}
use Rattle.storages.specs.Slices.{Arranges}
use Rattle.storages.proofs.Dense.{arrangement}
use Rattle.storages.proofs.kinds.dense_vec_storage.DenseVecStorageSliceAccess.as_slice.Goals as goal

pub returns : goal.returns
returns g c at h =
    let s = c.args.self.now in
    subst (λ (xs : List _). Arranges at s.ids.items xs) (sym c.deref.ensures.value) (arrangement _ s.ids.items s.places.items s.consistent s.values.items (sym s.values.ok.0) at h)
