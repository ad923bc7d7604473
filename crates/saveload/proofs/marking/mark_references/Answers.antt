use Rattle.std.proofs.Common.{rules, subst, ◌≡◌, ◌∙◌, ap, take, List, ◌++◌}
use Rattle.std.specs.Prelude.{pos}
use Rattle.std.proofs.lemmas.List.{take_more, append_assoc}
use Rattle.entities.specs.declared.entity.Entity.{Entity}
use Rattle.storages.specs.WriteView.{slot, entities_of, found}
use Rattle.std.specs.Prelude.{IsSome, Err}
use Rattle.entities.specs.Census.{population}
use Rattle.saveload.specs.Conversion.{Has, AllNamed}
use Rattle.saveload.proofs.Lists.{has_at, tested_more}
use Rattle.saveload.proofs.Marked.{marks_then, found_kept, has_one, named_are_alive, stops_at}
use Rattle.saveload.proofs.Closing.{new_more, marks_more}
use Rattle.saveload.proofs.Rows.{on_err}
use Rattle.saveload.proofs.Turns.{turns_then, turns_until}
use Rattle.saveload.proofs.marking.mark_references.Goals as goal

pub loop-x-preserved : goal.loop-x-preserved
loop-x-preserved g c =
    let inv = c.loop-x.invariant in
    let now = c.in_ok-mark_one.ensures in
    rw (take_more c.args.references.now c.loop-x.x-index (0, record { 0 = pos 0 }) c.loop-x-test.true) (
      now.same_reference ∙ inv.0,
      now.entities ∙ inv.1,
      now.list ∙ new_more (slot c.args.markers.now) (slot c.loop-x.markers) c.args.list.now.items (take c.loop-x.x-index c.args.references.now) _ c.loop-x.list.items inv.3 inv.2,
      marks_more (slot c.args.markers.now) (slot c.loop-x.markers) (slot c.mark_one.new.markers) (take c.loop-x.x-index c.args.references.now) _ inv.3 now.marked,
      subst (λ xs. AllNamed (λ e. found c.mark_one.new.markers e) xs) (take_more c.args.references.now c.loop-x.x-index (0, record { 0 = pos 0 }) c.loop-x-test.true)
          (tested_more (λ x. IsSome (found c.mark_one.new.markers x)) c.args.references.now c.loop-x.x-index (0, record { 0 = pos 0 }) c.loop-x-test.true
          (λ x h. found_kept (entities_of c.loop-x.markers) (entities_of c.mark_one.new.markers) (slot c.loop-x.markers) (slot c.mark_one.new.markers) now.entities now.marks.marked.kept x (inv.4 x h))
          now.named),
      marks_then (population (entities_of c.args.markers.now)) (population (entities_of c.loop-x.markers)) (Has c.args.references.now) _ (Has c.args.references.now) (slot c.args.markers.now) (slot c.loop-x.markers) (slot c.mark_one.new.markers) (ap population c.loop-x.invariant.1) (λ x h. h)
          (λ x h. has_one c.args.references.now _ x (has_at c.args.references.now c.loop-x.x-index (0, record { 0 = pos 0 }) c.loop-x-test.true) h) c.loop-x.invariant.5 now.marks,
      (
        inv.6.0 ++ now.gives.0,
        now.gives.1 ∙ ap (λ (l : List Entity). l ++ now.gives.0) inv.6.1 ∙ append_assoc c.args.list.now.items inv.6.0 now.gives.0,
        turns_then g.M.Marker.id_of g.M.Identifier.PartialEq.eq g.A.MarkerAllocator.MayBeNew g.A.MarkerAllocator.mapping g.A.IdSupply.ids c.args.allocator.now c.loop-x.allocator c.mark_one.new.allocator (slot c.args.markers.now) (slot c.loop-x.markers) (slot c.mark_one.new.markers) inv.6.0 now.gives.0 inv.6.2 now.gives.2,
      ),
    )

pub returns-in_err-mark_one-clause-stops : goal.returns-in_err-mark_one-clause-stops
returns-in_err-mark_one-clause-stops g c =
    let inv = c.loop-x.invariant in
    on_err _ (turns_until g.M.Marker.id_of g.M.Identifier.PartialEq.eq g.A.MarkerAllocator.MayBeNew g.A.MarkerAllocator.mapping g.A.IdSupply.ids c.args.allocator.now c.loop-x.allocator c.mark_one.new.allocator (slot c.args.markers.now) (slot c.loop-x.markers) (slot c.mark_one.new.markers) inv.6.0 inv.6.2 c.in_err-mark_one.ensures.stops)

pub returns-in_err-mark_one-clause-marks : goal.returns-in_err-mark_one-clause-marks
returns-in_err-mark_one-clause-marks g c = marks_then (population (entities_of c.args.markers.now)) (population (entities_of c.loop-x.markers)) (Has c.args.references.now) _ (Has c.args.references.now) (slot c.args.markers.now) (slot c.loop-x.markers) (slot c.mark_one.new.markers) (ap population c.loop-x.invariant.1) (λ x h. h)
    (λ x h. has_one c.args.references.now _ x (has_at c.args.references.now c.loop-x.x-index (0, record { 0 = pos 0 }) c.loop-x-test.true) h) c.loop-x.invariant.5 c.in_err-mark_one.ensures.marks

pub returns-in_err-mark_one-clause-refused : goal.returns-in_err-mark_one-clause-refused
returns-in_err-mark_one-clause-refused g c =
    let same : c.from_residual.result ≡ Err c.in_err-mark_one.field-0.0 = search rules in
    rw same (stops_at (population (entities_of c.args.markers.now)) (population (entities_of c.loop-x.markers)) (slot c.args.markers.now) (slot c.loop-x.markers) (slot c.mark_one.new.markers) c.args.references.now c.loop-x.x-index (0, record { 0 = pos 0 })
    (ap population c.loop-x.invariant.1) c.loop-x-test.true
    (named_are_alive (entities_of c.args.markers.now) (entities_of c.loop-x.markers) (slot c.loop-x.markers) (take c.loop-x.x-index c.args.references.now) c.loop-x.invariant.1 c.loop-x.invariant.4)
    c.loop-x.invariant.3 c.in_err-mark_one.field-0.0 c.in_err-mark_one.ensures.refused)
