use Rattle.std.proofs.Common.{ap, sym, ◌∙◌, refl, subst, List}
use Rattle.std.specs.Vec.{with_items as with_values}
use Rattle.storages.specs.Dense.{meaning_of}
use Rattle.storages.specs.Slices.{Arranges, item_beside}
use Rattle.storages.specs.SliceLends.{Rewrites}
use Rattle.storages.proofs.Dense.{arrangement}
use Rattle.storages.proofs.SliceLends.{same-dense, item-dense, rewrites-dense, left-refilled}
use Rattle.storages.proofs.kinds.dense_vec_storage.DenseVecStorageSliceAccessMut.as_mut_slice.Goals as goal

pub returns : goal.returns
returns g c =
    let s = c.args.self.now in (
      (refl, λ w. same-dense (with_values s.values w) s.ids s.places _ _ _ _ _ _),
      record {
        writes_back = tt;
        value = λ at h. subst (λ (xs : List _). Arranges at s.ids.items xs) (sym c.deref_mut.ensures.value) (arrangement _ s.ids.items s.places.items s.consistent s.values.items (sym s.values.ok.0) at h);
        places = λ q h. ap (λ (xs : List _). item_beside s.ids.items xs q) c.deref_mut.ensures.value ∙ item-dense _ s.ids.items s.places.items s.consistent s.values.items (sym s.values.ok.0) q h;
        rewrites = λ xs.
            subst (λ (ys : List _). Rewrites item_beside (meaning_of s.values.items s.ids.items s.places.items) (meaning_of (with_values s.values xs).items s.ids.items s.places.items) ys) (left-refilled _ s.values.items xs s.values.len c.deref_mut.ensures.value s.values.ok.0)
            (rewrites-dense _ s.ids.items s.places.items s.consistent s.values.items (with_values s.values xs).items (sym s.values.ok.0) (sym (with_values s.values xs).ok.0));
      },
    )
