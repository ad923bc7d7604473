use Rattle.std.proofs.Common.{sym, arith, rules}
use Rattle.storages.specs.declared.kinds.dense_vec_storage.TheConstants.{PAGE_LEN}
use Rattle.storages.proofs.Dense.{consistent-added, page-made, paged-added, puts-added, within-set, in_page, kept_places}
use Rattle.storages.proofs.kinds.dense_vec_storage.DenseVecStorageUnprotectedStorage.insert.Goals as goal

pub set-requires : goal.set-requires
set-requires g c = (omega arith, page-made _ _ _ c.in-Ok.ensures.pages)

pub invariant_of-self-2 : goal.invariant_of-self-2
invariant_of-self-2 g c =
    let s = c.args.self.now in
    let l = c.in-Ok.ensures.len in
    record {
      consistent = consistent-added s.values.items s.ids.items s.places.items c.reserve.new.self.items _ s.consistent (sym s.values.ok.0) c.args.id c.args.value c.requires.free (in_page PAGE_LEN c.args.id _ (omega arith) (omega (arith, l))) (kept_places _ _ c.reserve.ensures.items (omega (arith, l))) _ _ _ _ (search rules) (search rules) (search rules) c.set.ensures.items;
      paged = paged-added _ s.ids.items s.places s.paged c.args.id _ _ (search rules) (search rules);
      within = within-set _ _ _ _ _ c.set.ensures.items (let w = s.within in omega (arith, l, w));
    }

pub returns-clause-ok : goal.returns-clause-ok
returns-clause-ok g c =
    let s = c.args.self.now in
    let l = c.in-Ok.ensures.len in
    puts-added s.values.items s.ids.items s.places.items c.reserve.new.self.items _ s.consistent (sym s.values.ok.0) c.args.id c.args.value c.requires.free (in_page PAGE_LEN c.args.id _ (omega arith) (omega (arith, l))) (kept_places _ _ c.reserve.ensures.items (omega (arith, l))) _ _ _ _ (search rules) (search rules) (search rules) c.set.ensures.items
