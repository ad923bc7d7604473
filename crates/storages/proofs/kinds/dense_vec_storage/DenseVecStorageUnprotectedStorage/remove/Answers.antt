use Rattle.std.proofs.Common.{◌∙◌, sym, arith}
use Rattle.storages.proofs.Dense.{place-in, last-paged, value-taken, consistent-after, paged-after, frees-after, within-set}
use Rattle.storages.proofs.kinds.dense_vec_storage.DenseVecStorageUnprotectedStorage.remove.Goals as goal

pub set-requires : goal.set-requires
set-requires g c =
    let s = c.args.self.now in
    (omega arith, last-paged s.values.items s.ids.items s.places.items _ s.consistent (sym s.values.ok.0) c.args.id c.get_present-place.result c.index-last.result.now c.len.result c.get_present-place.ensures c.index-last.ensures (c.len.ensures ∙ s.ids.ok.0) c.requires _ s.places s.paged)

pub swap_remove-requires : goal.swap_remove-requires
swap_remove-requires g c =
    let s = c.args.self.now in
    let h = place-in s.values.items s.ids.items s.places.items _ s.consistent (sym s.values.ok.0) c.args.id c.get_present-place.result c.index-last.result.now c.len.result c.get_present-place.ensures c.index-last.ensures (c.len.ensures ∙ s.ids.ok.0) c.requires in
    omega (arith, h, s.ids.ok.0)

pub swap_remove-requires-2 : goal.swap_remove-requires-2
swap_remove-requires-2 g c =
    let s = c.args.self.now in
    let h = place-in s.values.items s.ids.items s.places.items _ s.consistent (sym s.values.ok.0) c.args.id c.get_present-place.result c.index-last.result.now c.len.result c.get_present-place.ensures c.index-last.ensures (c.len.ensures ∙ s.ids.ok.0) c.requires in
    omega (arith, h, s.consistent.lengths)

pub invariant_of-self : goal.invariant_of-self
invariant_of-self g c =
    let s = c.args.self.now in
    record {
      consistent = consistent-after s.values.items s.ids.items s.places.items _ s.consistent (sym s.values.ok.0) c.args.id c.get_present-place.result c.index-last.result.now c.len.result c.get_present-place.ensures c.index-last.ensures (c.len.ensures ∙ s.ids.ok.0) c.requires _ _ _ _ c.swap_remove.ensures.items c.swap_remove-2.ensures.len c.set.ensures.items;
      paged = paged-after s.values.items s.ids.items s.places.items _ s.consistent (sym s.values.ok.0) c.args.id c.get_present-place.result c.index-last.result.now c.len.result c.get_present-place.ensures c.index-last.ensures (c.len.ensures ∙ s.ids.ok.0) c.requires _ _ s.places _ _ s.paged c.swap_remove.ensures.items c.set.ensures.pages;
      within = within-set _ _ _ _ _ c.set.ensures.items s.within;
    }

pub returns-clause-value : goal.returns-clause-value
returns-clause-value g c =
    let s = c.args.self.now in
    value-taken s.values.items s.ids.items s.places.items _ s.consistent (sym s.values.ok.0) c.args.id c.get_present-place.result c.index-last.result.now c.len.result c.get_present-place.ensures c.index-last.ensures (c.len.ensures ∙ s.ids.ok.0) c.requires _ c.swap_remove-2.ensures.value

pub returns-clause-ok : goal.returns-clause-ok
returns-clause-ok g c =
    let s = c.args.self.now in
    frees-after s.values.items s.ids.items s.places.items _ s.consistent (sym s.values.ok.0) c.args.id c.get_present-place.result c.index-last.result.now c.len.result c.get_present-place.ensures c.index-last.ensures (c.len.ensures ∙ s.ids.ok.0) c.requires _ _ _ _ _ c.swap_remove.ensures.items c.swap_remove-2.ensures.items c.set.ensures.items
