use Rattle.std.proofs.Common.{rules, ◌≡◌, ◌∙◌, subst, map, refl, List, true, inl, inr}
use Rattle.std.specs.Prelude.{Err}
use Rattle.std.proofs.lemmas.Result.{err_from_is_err_and}
use Rattle.entities.specs.Census.{population}
use Rattle.storages.specs.Life.{is_alive}
use Rattle.saveload.specs.Naming.{naming, NamesAll}
use Rattle.saveload.specs.Loads.{named}
use Rattle.saveload.specs.Stops.{StopsNaming}
use Rattle.saveload.specs.Told.{told_both}
use Rattle.saveload.proofs.Rows.{on_ok, if_err, ok_given, err_given}
use Rattle.saveload.proofs.Stopped.{naming_refused, stops_first, stops_later}
use Rattle.saveload.proofs.Named.{named_entity, names_alive, all_alive, alive_true, living_born_in, has_map}
use Rattle.saveload.proofs.load.load_record.Goals as goal

pub returns-in_err-entity-clause-changes : goal.returns-in_err-entity-clause-changes
returns-in_err-entity-clause-changes g c = g.met.P.DeserializeComponents.changes_self c.args.masked.now

pub returns-in_err-mentioned-clause-changes : goal.returns-in_err-mentioned-clause-changes
returns-in_err-mentioned-clause-changes g c = g.met.P.DeserializeComponents.changes_self c.args.masked.now

pub returns-in_err-name_all-clause-changes : goal.returns-in_err-name_all-clause-changes
returns-in_err-name_all-clause-changes g c = g.met.P.DeserializeComponents.changes_self c.args.masked.now

pub returns-clause-loaded : goal.returns-clause-loaded
returns-clause-loaded g c =
    let eq = g.M.Identifier.PartialEq.eq in
    let mapping = g.M.Allocator.MarkerAllocator.mapping in
    let past = g.M.Allocator.MarkerAllocator.ids_past in
    let before = naming g.M.Marker.id_of mapping past c.args.entities.now c.args.allocator.now c.args.markers.now in
    let mid = naming g.M.Marker.id_of mapping past c.retrieve_entity.new.entities c.retrieve_entity.new.self c.retrieve_entity.new.storage in
    let after = naming g.M.Marker.id_of mapping past c.name_all.new.entities c.name_all.new.allocator c.name_all.new.markers in
    let all : NamesAll eq mid (map g.M.Marker.id_of (g.P.DeserializeComponents.conversion.mentions c.args.saved.components)) after =
    subst (λ (ms : List g.row.M.Denot). NamesAll eq mid (map g.M.Marker.id_of ms) after) c.in_ok-mentioned.ensures c.in_ok-name_all.ensures.named in
    let own = c.in_ok-entity.ensures.named in
    let life = names_alive eq before mid _ c.in_ok-entity.entity (living_born_in c.args.entities.now) own in
    let alive : is_alive (population c.name_all.new.entities) c.in_ok-entity.entity ≡ true = alive_true (population c.name_all.new.entities) c.in_ok-entity.entity (all_alive eq _ mid after life.0 all c.in_ok-entity.entity life.1) in
    let f = named g.M.Marker.id_of (mapping c.name_all.new.allocator) in
    on_ok c.deserialize_entity.result
    (λ rows. record { entity = c.in_ok-entity.entity; mid = mid; own = own; mentioned = all; rows = rows })
    (ok_given g.P.DeserializeComponents.conversion _ c.args.saved.components c.in_ok-entity.entity (g.P.DeserializeComponents.rows c.args.masked.now) (g.P.DeserializeComponents.rows c.deserialize_entity.new.self) c.deserialize_entity.result (c.deserialize_entity.ensures.rows alive) f
    (λ m r h p. let answered : r ≡ mapping c.name_all.new.allocator (g.M.Marker.id_of m) = search rules in answered
    ∙ named_entity eq g.met.M.Marker.same_ids _ mid after all (g.M.Marker.id_of m) (has_map g.M.Marker.id_of _ m h)))

pub returns-in_err-entity-clause-refused : goal.returns-in_err-entity-clause-refused
returns-in_err-entity-clause-refused g c =
    let p = err_from_is_err_and c.from_residual.result c.from_residual.ensures.1 in
    rw (p.1, p.2) (inl (record {
      stops = stops_first g.M.Identifier.PartialEq.eq _ _ _ _ _ c.in_err-entity.ensures.err (naming_refused (population c.args.entities.now) c.in_err-entity.field-0.0 c.in_err-entity.ensures.limit);
      rows = refl {a = g.P.DeserializeComponents.rows c.args.masked.now};
    }))

pub returns-in_err-name_all-clause-refused : goal.returns-in_err-name_all-clause-refused
returns-in_err-name_all-clause-refused g c =
    let eq = g.M.Identifier.PartialEq.eq in
    let mapping = g.M.Allocator.MarkerAllocator.mapping in
    let past = g.M.Allocator.MarkerAllocator.ids_past in
    let mid = naming g.M.Marker.id_of mapping past c.retrieve_entity.new.entities c.retrieve_entity.new.self c.retrieve_entity.new.storage in
    let after = naming g.M.Marker.id_of mapping past c.name_all.new.entities c.name_all.new.allocator c.name_all.new.markers in
    let same : c.from_residual-in_err-name_all.result ≡ Err c.in_err-name_all.field-0.0 = search rules in
    let stops : StopsNaming eq mid (map g.M.Marker.id_of (g.P.DeserializeComponents.conversion.mentions c.args.saved.components)) c.in_err-name_all.field-0.0 after =
    subst (λ (ms : List g.row.M.Denot). StopsNaming eq mid (map g.M.Marker.id_of ms) c.in_err-name_all.field-0.0 after) c.in_ok-mentioned.ensures c.in_err-name_all.ensures.refused in
    rw same (inl (record {
      stops = stops_later eq _ mid after _ c.in_ok-entity.entity _ _ c.in_ok-entity.ensures.named stops;
      rows = refl {a = g.P.DeserializeComponents.rows c.args.masked.now};
    }))

pub returns-clause-refused : goal.returns-clause-refused
returns-clause-refused g c =
    let eq = g.M.Identifier.PartialEq.eq in
    let mapping = g.M.Allocator.MarkerAllocator.mapping in
    let past = g.M.Allocator.MarkerAllocator.ids_past in
    let before = naming g.M.Marker.id_of mapping past c.args.entities.now c.args.allocator.now c.args.markers.now in
    let mid = naming g.M.Marker.id_of mapping past c.retrieve_entity.new.entities c.retrieve_entity.new.self c.retrieve_entity.new.storage in
    let after = naming g.M.Marker.id_of mapping past c.name_all.new.entities c.name_all.new.allocator c.name_all.new.markers in
    let all : NamesAll eq mid (map g.M.Marker.id_of (g.P.DeserializeComponents.conversion.mentions c.args.saved.components)) after =
    subst (λ (ms : List g.row.M.Denot). NamesAll eq mid (map g.M.Marker.id_of ms) after) c.in_ok-mentioned.ensures c.in_ok-name_all.ensures.named in
    let own = c.in_ok-entity.ensures.named in
    let life = names_alive eq before mid _ c.in_ok-entity.entity (living_born_in c.args.entities.now) own in
    let alive : is_alive (population c.name_all.new.entities) c.in_ok-entity.entity ≡ true = alive_true (population c.name_all.new.entities) c.in_ok-entity.entity (all_alive eq _ mid after life.0 all c.in_ok-entity.entity life.1) in
    let f = named g.M.Marker.id_of (mapping c.name_all.new.allocator) in
    if_err c.deserialize_entity.result
    (λ e row why. inr (inr (record { entity = c.in_ok-entity.entity; mid = mid; own = own; mentioned = all; row = row; why = why })))
    (err_given g.P.DeserializeComponents.Partly g.P.DeserializeComponents.conversion _ c.args.saved.components c.in_ok-entity.entity (g.P.DeserializeComponents.rows c.args.masked.now) (g.P.DeserializeComponents.rows c.deserialize_entity.new.self) c.deserialize_entity.result (c.deserialize_entity.ensures.stopped alive) f
    (λ m r h p. let answered : r ≡ mapping c.name_all.new.allocator (g.M.Marker.id_of m) = search rules in answered
    ∙ named_entity eq g.met.M.Marker.same_ids _ mid after all (g.M.Marker.id_of m) (has_map g.M.Marker.id_of _ m h)))
    (c.deserialize_entity.ensures.refused f
    (λ m r h p. let answered : r ≡ mapping c.name_all.new.allocator (g.M.Marker.id_of m) = search rules in answered
    ∙ named_entity eq g.met.M.Marker.same_ids _ mid after all (g.M.Marker.id_of m) (has_map g.M.Marker.id_of _ m h)))

pub returns-in_err-name_all-clause-told : goal.returns-in_err-name_all-clause-told
returns-in_err-name_all-clause-told g c = told_both _ _ _ c.in_ok-entity.ensures.told c.in_err-name_all.ensures.told

pub returns-clause-told : goal.returns-clause-told
returns-clause-told g c = told_both _ _ _ c.in_ok-entity.ensures.told c.in_ok-name_all.ensures.told

pub returns-clause-each : goal.returns-clause-each
returns-clause-each g c =
    let eq = g.M.Identifier.PartialEq.eq in
    let mapping = g.M.Allocator.MarkerAllocator.mapping in
    let past = g.M.Allocator.MarkerAllocator.ids_past in
    let before = naming g.M.Marker.id_of mapping past c.args.entities.now c.args.allocator.now c.args.markers.now in
    let mid = naming g.M.Marker.id_of mapping past c.retrieve_entity.new.entities c.retrieve_entity.new.self c.retrieve_entity.new.storage in
    let after = naming g.M.Marker.id_of mapping past c.name_all.new.entities c.name_all.new.allocator c.name_all.new.markers in
    let all : NamesAll eq mid (map g.M.Marker.id_of (g.P.DeserializeComponents.conversion.mentions c.args.saved.components)) after =
    subst (λ (ms : List g.row.M.Denot). NamesAll eq mid (map g.M.Marker.id_of ms) after) c.in_ok-mentioned.ensures c.in_ok-name_all.ensures.named in
    let life = names_alive eq before mid _ c.in_ok-entity.entity (living_born_in c.args.entities.now) c.in_ok-entity.ensures.named in
    let alive : is_alive (population c.name_all.new.entities) c.in_ok-entity.entity ≡ true = alive_true (population c.name_all.new.entities) c.in_ok-entity.entity (all_alive eq _ mid after life.0 all c.in_ok-entity.entity life.1) in
    let f = named g.M.Marker.id_of (mapping c.name_all.new.allocator) in
    on_ok c.deserialize_entity.result
    (λ stores. (
      c.in_ok-entity.entity,
      f,
      stores f (λ m r h p. let answered : r ≡ mapping c.name_all.new.allocator (g.M.Marker.id_of m) = search rules in answered
          ∙ named_entity eq g.met.M.Marker.same_ids _ mid after all (g.M.Marker.id_of m) (has_map g.M.Marker.id_of _ m h)),
    ))
    (c.deserialize_entity.ensures.once alive)
