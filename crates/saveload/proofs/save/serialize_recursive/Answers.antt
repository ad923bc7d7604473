use Rattle.std.proofs.Common.{rules, inl, refl, ◌≡◌, ◌∙◌, sym, ap, subst, ◌++◌, List, []}
use mathlib.Core.Path.{fun_ext}
use Rattle.entities.specs.declared.entity.Entity.{Entity}
use Rattle.entities.specs.Census.{population}
use Rattle.storages.specs.Found.{found_in}
use Rattle.std.specs.Prelude.{IsSome, Err}
use Rattle.std.specs.List.{flat_map}
use Rattle.storages.specs.ReadView.{found, slot as slot_read, entities_of as entities_read}
use Rattle.storages.specs.WriteView.{slot, entities_of, found as found_by}
use Rattle.saveload.specs.Saved.{all_marked, marked_by, IsSavedList}
use Rattle.saveload.specs.Closing.{marked_in, IsClosed, IsMentioned, MarksSome, MarksThese, MarksUpTo, RefusesMarking}
use Rattle.saveload.specs.Conversion.{Has}
use Rattle.saveload.specs.Marking.{MarksInTurn}
use Rattle.saveload.proofs.Turns.{turns_end}
use Rattle.std.proofs.lemmas.List.{append_cancel_left}
use Rattle.saveload.proofs.Rows.{err_weaker, on_err}
use Rattle.saveload.proofs.Marked.{all_marked_named, closed_named, found_kept, referred_are_alive, save_refused, marking_refused}
use Rattle.saveload.proofs.Saving.{if_ok}
use Rattle.saveload.proofs.Closing.{marked_none}
use Rattle.std.proofs.lemmas.Result.{err_from_is_err_and}
use Rattle.saveload.specs.declared.entity_data.EntityData.{EntityData}
use Rattle.saveload.specs.Places.{has_right}
use Rattle.saveload.proofs.Whole.{EachOnce, saved_marked, saved_holds, saved_distinct, more_whole, whole_in, closed_once}
use Rattle.saveload.proofs.save.serialize_recursive.Goals as goal

pub returns-clause-ok : goal.returns-clause-ok
returns-clause-ok g c =
    let convert = g.P.SerializeComponents.conversion in
    let values = λ (e : Entity). g.P.SerializeComponents.values c.args.places.now e in
    let begun : c.in_ok-list.list.items ≡ all_marked (population (entities_of c.args.markers.now)) (slot c.args.markers.now) = search rules in
    let more = c.in_ok-mark_all.ensures.marked in
    let gives = c.in_ok-mark_all.ensures.gives in
    let seen : slot_read c.new-marked.result ≡ slot c.mark_all.new.markers = search rules in
    let beside : entities_read c.new-marked.result ≡ entities_of c.mark_all.new.markers = search rules in
    let same = λ (e : Entity). ap (λ s. found_in (entities_read c.new-marked.result) s e) seen ∙ ap (λ people. found_in people (slot c.mark_all.new.markers) e) beside in
    let listed = c.deref.ensures.value in
    let parts = listed ∙ more.1 ∙ ap (λ (l : List Entity). l ++ more.0) begun in
    let there : c.fetched_entities.result.now ≡ entities_of c.args.markers.now = search rules in
    let then : c.storage.result.now ≡ slot c.args.markers.now = search rules in
    let whole = whole_in c.fetched_entities.result.now (entities_of c.args.markers.now) c.storage.result.now (slot c.args.markers.now) c.in_ok-list.list.items (marked_by c.args.markers.now) there then begun c.in_ok-list.ensures.whole in
    let found_all = λ (rs : List (EntityData _ _)) (h : IsSavedList convert (λ e. found c.new-marked.result e) values c.deref.result.now rs). subst (λ f. IsSavedList convert f values c.deref.result.now rs) (fun_ext same) h in
    if_ok c.save_list.result (λ rs h. record {
      all = c.deref.result.now;
      added = more.0;
      parts = parts;
      closed = subst (λ (l : List Entity). IsClosed (marked_in (slot c.args.markers.now)) (λ e. convert.references (values e)) l c.deref.result.now) begun (rw listed c.in_ok-mark_all.ensures.closed);
      marked = more.2;
      given = subst (λ (l : List Entity). MarksInTurn g.M.Marker.id_of g.M.Identifier.PartialEq.eq g.A.MarkerAllocator.MayBeNew g.A.MarkerAllocator.mapping g.A.IdSupply.ids c.args.allocator.now (slot c.args.markers.now) l c.mark_all.new.allocator (slot c.mark_all.new.markers)) (append_cancel_left c.in_ok-list.list.items gives.0 more.0 (sym gives.1 ∙ more.1)) gives.2;
      saved = found_all rs.items h;
      holds = saved_holds convert (λ e. found_by c.mark_all.new.markers e) values c.deref.result.now rs.items (found_all rs.items h) (λ x k. subst (λ (l : List Entity). Has l x) (sym parts)
          (more_whole (entities_of c.args.markers.now) (entities_of c.mark_all.new.markers) (slot c.args.markers.now) (slot c.mark_all.new.markers) more.0 c.in_ok-mark_all.ensures.entities
          whole more.2
          (λ y j. saved_marked convert (λ e. found_by c.mark_all.new.markers e) values c.deref.result.now rs.items (found_all rs.items h) y (subst (λ (l : List Entity). Has l y) (sym parts) (has_right _ more.0 y j))) x k));
    }) c.save_list.ensures.saved

pub returns-clause-distinct : goal.returns-clause-distinct
returns-clause-distinct g c = λ apart.
    if_ok c.save_list.result (λ rs w. saved_distinct g.P.SerializeComponents.conversion (λ e. found_by c.mark_all.new.markers e) (λ e. g.P.SerializeComponents.values c.args.places.now e) g.M.Marker.id_of apart w.all rs.items w.saved
    (subst EachOnce (sym w.closed.list) (closed_once (population (entities_of c.args.markers.now)) (slot c.args.markers.now)
    (flat_map (λ e. g.P.SerializeComponents.conversion.references (g.P.SerializeComponents.values c.args.places.now e)) w.all)))) (returns-clause-ok g c)

pub returns-in_err-mark_all-clause-marks : goal.returns-in_err-mark_all-clause-marks
returns-in_err-mark_all-clause-marks g c =
    let begun : c.in_ok-list.list.items ≡ all_marked (population (entities_of c.args.markers.now)) (slot c.args.markers.now) = search rules in
    let refs = λ (e : Entity). g.P.SerializeComponents.conversion.references (g.P.SerializeComponents.values c.args.places.now e) in
    subst (λ (l : List Entity). MarksSome (population (entities_of c.args.markers.now)) (IsMentioned refs l) (slot c.args.markers.now) (slot c.mark_all.new.markers)) begun c.in_err-mark_all.ensures.marks

pub returns-in_err-mark_all-clause-refused : goal.returns-in_err-mark_all-clause-refused
returns-in_err-mark_all-clause-refused g c =
    let begun : c.in_ok-list.list.items ≡ all_marked (population (entities_of c.args.markers.now)) (slot c.args.markers.now) = search rules in
    let refs = λ (e : Entity). g.P.SerializeComponents.conversion.references (g.P.SerializeComponents.values c.args.places.now e) in
    let same : c.from_residual-in_err-mark_all.result ≡ Err c.in_err-mark_all.field-0.0 = search rules in
    rw same (marking_refused g.P.SerializeComponents.conversion (λ (e : Entity). g.P.SerializeComponents.values c.args.places.now e) (all_marked (population (entities_of c.args.markers.now)) (slot c.args.markers.now)) (population (entities_of c.args.markers.now)) (slot c.args.markers.now) (slot c.mark_all.new.markers) c.in_err-mark_all.field-0.0
    (subst (λ (l : List Entity). RefusesMarking (population (entities_of c.args.markers.now)) (MarksUpTo (population (entities_of c.args.markers.now)) refs l (slot c.args.markers.now) (slot c.mark_all.new.markers)) c.in_err-mark_all.field-0.0) begun c.in_err-mark_all.ensures.refused))

pub returns-in_err-list-clause-refused : goal.returns-in_err-list-clause-refused
returns-in_err-list-clause-refused g c =
    let p = err_from_is_err_and c.from_residual.result c.from_residual.ensures.1 in
    rw (p.1, p.2) (inl (marked_none (slot c.args.markers.now)))

pub save_list-requires : goal.save_list-requires
save_list-requires g c =
    let begun : c.in_ok-list.list.items ≡ all_marked (population (entities_of c.args.markers.now)) (slot c.args.markers.now) = search rules in
    let refs = λ (e : Entity). g.P.SerializeComponents.conversion.references (g.P.SerializeComponents.values c.args.places.now e) in
    let seen : slot_read c.new-marked.result ≡ slot c.mark_all.new.markers = search rules in
    let beside : entities_read c.new-marked.result ≡ entities_of c.mark_all.new.markers = search rules in
    let same = λ (e : Entity). ap (λ s. found_in (entities_read c.new-marked.result) s e) seen ∙ ap (λ people. found_in people (slot c.mark_all.new.markers) e) beside in
    λ x h. subst IsSome (sym (same x)) (closed_named (λ y. IsSome (found_by c.mark_all.new.markers y)) refs (marked_in (slot c.args.markers.now)) c.in_ok-list.list.items c.mark_all.new.list.items c.in_ok-mark_all.ensures.closed.list
    (λ y k. found_kept (entities_of c.args.markers.now) (entities_of c.mark_all.new.markers) (slot c.args.markers.now) (slot c.mark_all.new.markers) c.in_ok-mark_all.ensures.entities c.in_ok-mark_all.ensures.marks.marked.kept y (all_marked_named (entities_of c.args.markers.now) (slot c.args.markers.now) y (subst (λ (l : List Entity). Has l y) begun k)))
    c.in_ok-mark_all.ensures.named x (subst (λ (l : List Entity). Has l x) c.deref.ensures.value h))

pub returns-clause-marks : goal.returns-clause-marks
returns-clause-marks g c =
    let begun : c.in_ok-list.list.items ≡ all_marked (population (entities_of c.args.markers.now)) (slot c.args.markers.now) = search rules in
    let refs = λ (e : Entity). g.P.SerializeComponents.conversion.references (g.P.SerializeComponents.values c.args.places.now e) in
    subst (λ (l : List Entity). MarksSome (population (entities_of c.args.markers.now)) (IsMentioned refs l) (slot c.args.markers.now) (slot c.mark_all.new.markers)) begun c.in_ok-mark_all.ensures.marks

pub returns-clause-refused : goal.returns-clause-refused
returns-clause-refused g c =
    let begun : c.in_ok-list.list.items ≡ all_marked (population (entities_of c.args.markers.now)) (slot c.args.markers.now) = search rules in
    let refs = λ (e : Entity). g.P.SerializeComponents.conversion.references (g.P.SerializeComponents.values c.args.places.now e) in
    let seen : slot_read c.new-marked.result ≡ slot c.mark_all.new.markers = search rules in
    let beside : entities_read c.new-marked.result ≡ entities_of c.mark_all.new.markers = search rules in
    let same = λ (e : Entity). ap (λ s. found_in (entities_read c.new-marked.result) s e) seen ∙ ap (λ people. found_in people (slot c.mark_all.new.markers) e) beside in
    let more = c.in_ok-mark_all.ensures.marked in
    let all : MarksThese (population (entities_of c.args.markers.now)) refs (all_marked (population (entities_of c.args.markers.now)) (slot c.args.markers.now)) (slot c.args.markers.now) (slot c.mark_all.new.markers) c.mark_all.new.list.items = record {
      added = more.0;
      parts = more.1 ∙ ap (λ (l : List Entity). l ++ more.0) begun;
      closed = subst (λ (l : List Entity). IsClosed (marked_in (slot c.args.markers.now)) refs l c.mark_all.new.list.items) begun c.in_ok-mark_all.ensures.closed;
      marked = more.2;
      alive = referred_are_alive (entities_of c.args.markers.now) (entities_of c.mark_all.new.markers) (slot c.mark_all.new.markers) refs c.mark_all.new.list.items c.in_ok-mark_all.ensures.entities c.in_ok-mark_all.ensures.named;
    } in
    err_weaker c.save_list.result (save_refused g.P.SerializeComponents.conversion (λ e. found c.new-marked.result e) (λ (e : Entity). g.P.SerializeComponents.values c.args.places.now e) c.deref.result.now _ (population (entities_of c.args.markers.now)) (slot c.args.markers.now) (slot c.mark_all.new.markers)
    (λ e h x k. subst IsSome (sym (same x)) (c.in_ok-mark_all.ensures.named e (subst (λ (l : List Entity). Has l e) c.deref.ensures.value h) x k))
    (subst (λ (l : List Entity). MarksThese (population (entities_of c.args.markers.now)) refs (all_marked (population (entities_of c.args.markers.now)) (slot c.args.markers.now)) (slot c.args.markers.now) (slot c.mark_all.new.markers) l) (sym c.deref.ensures.value) all)) c.save_list.ensures.refused

pub returns-in_err-list-clause-stops : goal.returns-in_err-list-clause-stops
returns-in_err-list-clause-stops g c = on_err _ (turns_end g.M.Marker.id_of g.M.Identifier.PartialEq.eq g.A.MarkerAllocator.MayBeNew g.A.MarkerAllocator.mapping g.A.IdSupply.ids c.args.allocator.now c.args.allocator.now (slot c.args.markers.now) (slot c.args.markers.now) [] (refl, refl))

pub returns-clause-stops : goal.returns-clause-stops
returns-clause-stops g c =
    let gives = c.in_ok-mark_all.ensures.gives in
    on_err _ (turns_end g.M.Marker.id_of g.M.Identifier.PartialEq.eq g.A.MarkerAllocator.MayBeNew g.A.MarkerAllocator.mapping g.A.IdSupply.ids c.args.allocator.now c.mark_all.new.allocator (slot c.args.markers.now) (slot c.mark_all.new.markers) gives.0 gives.2)
