use Rattle.std.proofs.Common.{◌∙◌, sym, subst, map, ◌∷◌, [], refl}
use Rattle.std.proofs.lemmas.List.{map-append}
use Rattle.saveload.specs.Naming.{naming, NamesAll}
use Rattle.saveload.specs.Told.{told_both}
use Rattle.saveload.specs.Told.IsTold.{start}
use Rattle.std.proofs.lemmas.Result.{err_from_is_err_and}
use Rattle.std.proofs.lemmas.Iterator.Adapters.{YieldsList-from_vec}
use Rattle.entities.specs.Census.{population}
use Rattle.saveload.proofs.Named.{names_more}
use Rattle.saveload.proofs.Stopped.{split, map_split, naming_refused}
use Rattle.saveload.proofs.load.name_all.Goals as goal

pub loop-m-init : goal.loop-m-init
loop-m-init g c = (start, refl)

pub loop-m-preserved : goal.loop-m-preserved
loop-m-preserved g c =
    let start = naming g.M.Marker.id_of g.M.Allocator.MarkerAllocator.mapping g.M.Allocator.MarkerAllocator.ids_past c.args.entities.now c.args.allocator.now c.args.markers.now in
    let here = naming g.M.Marker.id_of g.M.Allocator.MarkerAllocator.mapping g.M.Allocator.MarkerAllocator.ids_past c.loop-m.entities c.loop-m.allocator c.loop-m.markers in
    let there = naming g.M.Marker.id_of g.M.Allocator.MarkerAllocator.mapping g.M.Allocator.MarkerAllocator.ids_past c.retrieve_entity.new.entities c.retrieve_entity.new.self c.retrieve_entity.new.storage in (
      told_both _ _ _ c.loop-m.invariant.0 c.in_ok-retrieve_entity.ensures.told,
      subst (λ ids. NamesAll g.M.Identifier.PartialEq.eq start ids there) (sym (map-append g.M.Marker.id_of c.loop-m.yielded (c.in-Some.m ∷ [])))
          (names_more g.M.Identifier.PartialEq.eq start here there (map g.M.Marker.id_of c.loop-m.yielded) (g.M.Marker.id_of c.in-Some.m) c.in_ok-retrieve_entity.field-0 c.loop-m.invariant.1 c.in_ok-retrieve_entity.ensures.named),
    )

pub returns-in_err-retrieve_entity-clause-refused : goal.returns-in_err-retrieve_entity-clause-refused
returns-in_err-retrieve_entity-clause-refused g c =
    let p = err_from_is_err_and c.from_residual.result c.from_residual.ensures.1 in
    rw (p.1, p.2) (record {
      before = map g.M.Marker.id_of c.loop-m.yielded;
      id = g.M.Marker.id_of c.in-Some.m;
      rest = _;
      list = map_split g.M.Marker.id_of c.args.mentioned.items c.loop-m.yielded _ c.in-Some.m
          (split (YieldsList-from_vec {s = c.into_iter-m-iterator.result} c.args.mentioned.items c.into_iter-m-iterator.ensures.into_iter_gives.0 (c.into_iter-m-iterator.ensures.into_iter_gives.1 ∙ c.args.mentioned.ok.0)) c.loop-m.yielded c.loop-m.m-iterator c.loop-m.yielded_by _ c.next.new.self c.in-Some.m c.in-Some.is c.next.ensures.steps);
      mid = naming g.M.Marker.id_of g.M.Allocator.MarkerAllocator.mapping g.M.Allocator.MarkerAllocator.ids_past c.loop-m.entities c.loop-m.allocator c.loop-m.markers;
      named = c.loop-m.invariant.1;
      none = c.in_err-retrieve_entity.ensures.err;
      why = naming_refused (population c.loop-m.entities) c.in_err-retrieve_entity.field-0.0 c.in_err-retrieve_entity.ensures.limit;
    })

pub returns-in_err-retrieve_entity-clause-told : goal.returns-in_err-retrieve_entity-clause-told
returns-in_err-retrieve_entity-clause-told g c = told_both _ _ _ c.loop-m.invariant.0 c.in_err-retrieve_entity.ensures.told

pub returns-clause-told : goal.returns-clause-told
returns-clause-told g c = c.loop-m.invariant.0
