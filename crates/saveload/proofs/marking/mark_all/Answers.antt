use Rattle.std.proofs.Common.{rules, subst, refl, arith, append-nil, ◌≡◌, sym, ◌∙◌, ap, get_or, length, ◌<◌, take, List, [], ◌++◌}
use Rattle.std.proofs.lemmas.List.{append_assoc}
use Rattle.entities.specs.declared.entity.Entity.{Entity}
use Rattle.std.specs.Prelude.{Err}
use Rattle.std.proofs.lemmas.Result.{err_from_is_err_and}
use Rattle.entities.specs.Census.{population}
use Rattle.storages.specs.WriteView.{slot, entities_of, found}
use Rattle.saveload.specs.Conversion.{Has, AllNamed}
use Rattle.saveload.specs.Closing.{marked_in, IsMentioned, MarksBefore, MarksUpTo}
use Rattle.saveload.specs.Closing.LeadsTo.{first}
use Rattle.saveload.proofs.Lists.{has_at}
use Rattle.saveload.proofs.Marked.{marks_none, marks_then, found_kept, before_all, referred_are_alive, came_to, stops_marking, led_more, named_more}
use Rattle.saveload.proofs.Closing.{closed_step, marked_none}
use Rattle.saveload.proofs.Rows.{on_err}
use Rattle.saveload.proofs.Turns.{turns_then, turns_until, turns_end}
use Rattle.saveload.proofs.marking.mark_all.Goals as goal

pub loop-i-init : goal.loop-i-init
loop-i-init g c = (
  refl,
  refl,
  sym (append-nil c.args.list.now.items),
  marked_none (slot c.args.markers.now),
  λ j l. absurd (omega (arith, l)),
  λ e h. first e h,
  λ e h. absurd h,
  marks_none (population (entities_of c.args.markers.now)) _ (slot c.args.markers.now) (slot c.args.markers.now) refl,
  ([], sym (append-nil c.args.list.now.items), (refl, refl)),
)

pub loop-i-preserved : goal.loop-i-preserved
loop-i-preserved g c =
    let inv = c.loop-i.invariant in
    let now = c.in_ok-mark_references.ensures in
    let lt : c.loop-i.i < length c.loop-i.list.items = search rules in
    let list : c.deref.result.now ≡ g.P.SerializeComponents.conversion.references (g.P.SerializeComponents.values c.args.places.now (get_or c.loop-i.list.items c.loop-i.i c.index.result.now)) =
    c.deref.ensures.value ∙ c.in_ok-references.ensures ∙ ap (λ (e : Entity). g.P.SerializeComponents.conversion.references (g.P.SerializeComponents.values c.args.places.now e)) c.index.ensures in
    let step = closed_step (slot c.args.markers.now) (slot c.loop-i.markers) (slot c.mark_references.new.markers) (λ e. g.P.SerializeComponents.conversion.references (g.P.SerializeComponents.values c.args.places.now e))
    c.args.list.now.items c.loop-i.list.items c.mark_references.new.list.items c.loop-i.i c.index.result.now c.deref.result.now lt list inv.2 inv.3 now.list now.marked inv.4 in
    let refs = λ (e : Entity). g.P.SerializeComponents.conversion.references (g.P.SerializeComponents.values c.args.places.now e) in
    let one = get_or c.loop-i.list.items c.loop-i.i c.index.result.now in
    let has = has_at c.loop-i.list.items c.loop-i.i c.index.result.now lt in (
      now.same_reference ∙ inv.0,
      now.entities ∙ inv.1,
      step.0,
      step.1,
      step.2,
      led_more refs c.args.list.now.items c.loop-i.list.items c.mark_references.new.list.items (marked_in (slot c.loop-i.markers)) one c.deref.result.now has list now.list inv.5,
      named_more (λ e. AllNamed (λ x. found c.mark_references.new.markers x) (refs e)) c.loop-i.list.items c.mark_references.new.list.items _ c.loop-i.i c.index.result.now lt now.list
          (λ e h x k. found_kept (entities_of c.loop-i.markers) (entities_of c.mark_references.new.markers) (slot c.loop-i.markers) (slot c.mark_references.new.markers) now.entities now.marks.marked.kept x (inv.6 e h x k))
          (subst (AllNamed (λ x. found c.mark_references.new.markers x)) list now.named),
      marks_then (population (entities_of c.args.markers.now)) (population (entities_of c.loop-i.markers)) (IsMentioned refs c.args.list.now.items) _ (IsMentioned refs c.args.list.now.items) (slot c.args.markers.now) (slot c.loop-i.markers) (slot c.mark_references.new.markers) (ap population inv.1)
          (λ x h. h) (λ x h. (one, inv.5 one has, subst (λ l. Has l x) list h)) inv.7 now.marks,
      (
        inv.8.0 ++ now.gives.0,
        now.gives.1 ∙ ap (λ (l : List Entity). l ++ now.gives.0) inv.8.1 ∙ append_assoc c.args.list.now.items inv.8.0 now.gives.0,
        turns_then g.M.Marker.id_of g.M.Identifier.PartialEq.eq g.A.MarkerAllocator.MayBeNew g.A.MarkerAllocator.mapping g.A.IdSupply.ids c.args.allocator.now c.loop-i.allocator c.mark_references.new.allocator (slot c.args.markers.now) (slot c.loop-i.markers) (slot c.mark_references.new.markers) inv.8.0 now.gives.0 inv.8.2 now.gives.2,
      ),
    )

pub returns-in_err-mark_references-clause-marks : goal.returns-in_err-mark_references-clause-marks
returns-in_err-mark_references-clause-marks g c =
    let inv = c.loop-i.invariant in
    let now = c.in_err-mark_references.ensures in
    let lt : c.loop-i.i < length c.loop-i.list.items = search rules in
    let refs = λ (e : Entity). g.P.SerializeComponents.conversion.references (g.P.SerializeComponents.values c.args.places.now e) in
    let list : c.deref.result.now ≡ refs (get_or c.loop-i.list.items c.loop-i.i c.index.result.now) =
    c.deref.ensures.value ∙ c.in_ok-references.ensures ∙ ap refs c.index.ensures in
    let one = get_or c.loop-i.list.items c.loop-i.i c.index.result.now in
    let has = has_at c.loop-i.list.items c.loop-i.i c.index.result.now lt in
    marks_then (population (entities_of c.args.markers.now)) (population (entities_of c.loop-i.markers)) (IsMentioned refs c.args.list.now.items) _ (IsMentioned refs c.args.list.now.items) (slot c.args.markers.now) (slot c.loop-i.markers) (slot c.mark_references.new.markers) (ap population inv.1)
    (λ x h. h) (λ x h. (one, inv.5 one has, subst (λ l. Has l x) list h)) inv.7 now.marks

pub returns-in_err-mark_references-clause-refused : goal.returns-in_err-mark_references-clause-refused
returns-in_err-mark_references-clause-refused g c =
    let inv = c.loop-i.invariant in
    let now = c.in_err-mark_references.ensures in
    let lt : c.loop-i.i < length c.loop-i.list.items = search rules in
    let refs = λ (e : Entity). g.P.SerializeComponents.conversion.references (g.P.SerializeComponents.values c.args.places.now e) in
    let list : c.deref.result.now ≡ refs (get_or c.loop-i.list.items c.loop-i.i c.index.result.now) =
    c.deref.ensures.value ∙ c.in_ok-references.ensures ∙ ap refs c.index.ensures in
    let one = get_or c.loop-i.list.items c.loop-i.i c.index.result.now in
    let has = has_at c.loop-i.list.items c.loop-i.i c.index.result.now lt in
    let same : c.from_residual-in_err-mark_references.result ≡ Err c.in_err-mark_references.field-0.0 = search rules in
    rw same (stops_marking (population (entities_of c.args.markers.now)) (population (entities_of c.loop-i.markers)) (MarksBefore (population (entities_of c.loop-i.markers)) c.deref.result.now (slot c.loop-i.markers) (slot c.mark_references.new.markers)) (MarksUpTo (population (entities_of c.args.markers.now)) refs c.args.list.now.items (slot c.args.markers.now) (slot c.mark_references.new.markers))
    (ap population inv.1) (came_to (population (entities_of c.args.markers.now)) (population (entities_of c.loop-i.markers)) refs c.args.list.now.items c.loop-i.list.items c.deref.result.now (slot c.args.markers.now) (slot c.loop-i.markers) (slot c.mark_references.new.markers) c.loop-i.i c.index.result.now
    (ap population inv.1) lt inv.2
    (referred_are_alive (entities_of c.args.markers.now) (entities_of c.loop-i.markers) (slot c.loop-i.markers) refs (take c.loop-i.i c.loop-i.list.items) inv.1 inv.6)
    inv.3 (inv.5 one has) list) c.in_err-mark_references.field-0.0 now.refused)

pub returns-in_err-references-clause-refused : goal.returns-in_err-references-clause-refused
returns-in_err-references-clause-refused g c =
    let inv = c.loop-i.invariant in
    let p = err_from_is_err_and c.from_residual.result c.from_residual.ensures.1 in
    let lt : c.loop-i.i < length c.loop-i.list.items = search rules in
    let refs = λ (e : Entity). g.P.SerializeComponents.conversion.references (g.P.SerializeComponents.values c.args.places.now e) in
    let one = get_or c.loop-i.list.items c.loop-i.i c.index.result.now in
    let has = has_at c.loop-i.list.items c.loop-i.i c.index.result.now lt in
    rw (p.1, p.2) (
      refs one,
      came_to (population (entities_of c.args.markers.now)) (population (entities_of c.loop-i.markers)) refs c.args.list.now.items c.loop-i.list.items (refs one) (slot c.args.markers.now) (slot c.loop-i.markers) (slot c.loop-i.markers) c.loop-i.i c.index.result.now
          (ap population inv.1) lt inv.2
          (referred_are_alive (entities_of c.args.markers.now) (entities_of c.loop-i.markers) (slot c.loop-i.markers) refs (take c.loop-i.i c.loop-i.list.items) inv.1 inv.6)
          inv.3 (inv.5 one has) refl (refs one) (before_all (population (entities_of c.loop-i.markers)) (refs one) (slot c.loop-i.markers) (slot c.loop-i.markers) refl),
    )

pub returns-in_err-mark_references-clause-stops : goal.returns-in_err-mark_references-clause-stops
returns-in_err-mark_references-clause-stops g c =
    let inv = c.loop-i.invariant in
    on_err _ (turns_until g.M.Marker.id_of g.M.Identifier.PartialEq.eq g.A.MarkerAllocator.MayBeNew g.A.MarkerAllocator.mapping g.A.IdSupply.ids c.args.allocator.now c.loop-i.allocator c.mark_references.new.allocator (slot c.args.markers.now) (slot c.loop-i.markers) (slot c.mark_references.new.markers) inv.8.0 inv.8.2 c.in_err-mark_references.ensures.stops)

pub returns-in_err-references-clause-stops : goal.returns-in_err-references-clause-stops
returns-in_err-references-clause-stops g c =
    let inv = c.loop-i.invariant in
    on_err _ (turns_end g.M.Marker.id_of g.M.Identifier.PartialEq.eq g.A.MarkerAllocator.MayBeNew g.A.MarkerAllocator.mapping g.A.IdSupply.ids c.args.allocator.now c.loop-i.allocator (slot c.args.markers.now) (slot c.loop-i.markers) inv.8.0 inv.8.2)
