use Rattle.std.proofs.Common.{rules, ◌≡◌, refl, sym, ◌∙◌, subst, ap, Some, None, true, false, ◌++◌, ◌∷◌, [], List, append-nil}
use Rattle.std.specs.Prelude.{is_some}
use Rattle.entities.specs.declared.entity.Entity.{Entity}
use Rattle.entities.specs.Population.{index_of}
use Rattle.std.proofs.lemmas.Bool.{false≢true}
use Rattle.std.proofs.lemmas.Option.{same_Some, none-some}
use Rattle.entities.specs.Census.{population}
use Rattle.storages.specs.Life.{is_alive}
use Rattle.storages.specs.WriteView.{slot, entities_of}
use Rattle.saveload.specs.Closing.{marked_in, HasMarked}
use Rattle.saveload.proofs.Closing.{found_none, found_some, new_one, new_none, marked_none, marked_one}
use Rattle.storages.specs.Slot.{Slot}
use Rattle.saveload.proofs.Marked.{marks_none, marks_one, found_new, one_alive, before_all, after_all}
use Rattle.saveload.proofs.Turns.{turns_end, refused_at_once}
use Rattle.saveload.proofs.marking.mark_one.Goals as goal

pub returns-else-is_err-clause-list : goal.returns-else-is_err-clause-list
returns-else-is_err-clause-list g c =
    let yes : c.in-Ok-Some-true.field-0 ≡ Some true = search rules in
    let alive : true ≡ is_alive (population (entities_of c.args.markers.now)) c.args.entity = sym (ap is_some yes) ∙ c.in-Ok-Some-true.ensures.dead in
    let off : marked_in (slot c.args.markers.now) (index_of c.args.entity) ≡ false = found_none _ _ alive (c.in-Ok-Some-true.ensures.is_new yes) in
    let pushed : c.push.new.self.items ≡ c.args.list.now.items ++ c.args.entity ∷ [] = search rules in
    pushed ∙ ap (λ (l : List Entity). c.args.list.now.items ++ l) (sym (new_one (marked_in (slot c.args.markers.now)) c.args.entity off))

pub returns-else-is_err-clause-marked : goal.returns-else-is_err-clause-marked
returns-else-is_err-clause-marked g c =
    let yes : c.in-Ok-Some-true.field-0 ≡ Some true = search rules in
    let alive : true ≡ is_alive (population (entities_of c.args.markers.now)) c.args.entity = sym (ap is_some yes) ∙ c.in-Ok-Some-true.ensures.dead in
    let off : marked_in (slot c.args.markers.now) (index_of c.args.entity) ≡ false = found_none _ _ alive (c.in-Ok-Some-true.ensures.is_new yes) in
    let marks = c.in-Ok-Some-true.ensures.new yes in
    subst (HasMarked (slot c.args.markers.now) (slot c.mark.new.storage)) (sym (new_one (marked_in (slot c.args.markers.now)) c.args.entity off)) (marked_one _ _ c.args.entity marks.0 marks.2.becomes.map off)

pub returns-in-Ok-Some-false-clause-list : goal.returns-in-Ok-Some-false-clause-list
returns-in-Ok-Some-false-clause-list g c =
    let no : c.in-Ok-Some-false.field-0 ≡ Some false = search rules in
    let on : marked_in (slot c.args.markers.now) (index_of c.args.entity) ≡ true = found_some _ _ (c.in-Ok-Some-false.ensures.was no) in
    sym (append-nil c.args.list.now.items) ∙ ap (λ (l : List Entity). c.args.list.now.items ++ l) (sym (new_none (marked_in (slot c.args.markers.now)) c.args.entity on))

pub returns-in-Ok-Some-false-clause-marked : goal.returns-in-Ok-Some-false-clause-marked
returns-in-Ok-Some-false-clause-marked g c =
    let no : c.in-Ok-Some-false.field-0 ≡ Some false = search rules in
    let on : marked_in (slot c.args.markers.now) (index_of c.args.entity) ≡ true = found_some _ _ (c.in-Ok-Some-false.ensures.was no) in
    let same : slot c.mark.new.storage ≡ slot c.args.markers.now = (c.in-Ok-Some-false.ensures.old (λ e. false≢true (same_Some false true (sym no ∙ e)))).0 in
    subst (HasMarked (slot c.args.markers.now) (slot c.mark.new.storage)) (sym (new_none (marked_in (slot c.args.markers.now)) c.args.entity on)) (subst (λ s. HasMarked (slot c.args.markers.now) s []) (sym same) (marked_none (slot c.args.markers.now)))

pub returns-else-is_err-clause-named : goal.returns-else-is_err-clause-named
returns-else-is_err-clause-named g c =
    let yes : c.in-Ok-Some-true.field-0 ≡ Some true = search rules in
    let alive : true ≡ is_alive (population (entities_of c.args.markers.now)) c.args.entity = sym (ap is_some yes) ∙ c.in-Ok-Some-true.ensures.dead in
    let marks = c.in-Ok-Some-true.ensures.new yes in
    found_new (entities_of c.args.markers.now) (entities_of c.mark.new.storage) (slot c.args.markers.now) (slot c.mark.new.storage) c.args.entity marks.0 c.in-Ok-Some-true.ensures.entities (sym alive) marks.2.becomes.map

pub returns-else-is_err-clause-marks : goal.returns-else-is_err-clause-marks
returns-else-is_err-clause-marks g c =
    let yes : c.in-Ok-Some-true.field-0 ≡ Some true = search rules in
    let alive : true ≡ is_alive (population (entities_of c.args.markers.now)) c.args.entity = sym (ap is_some yes) ∙ c.in-Ok-Some-true.ensures.dead in
    let off : marked_in (slot c.args.markers.now) (index_of c.args.entity) ≡ false = found_none _ _ alive (c.in-Ok-Some-true.ensures.is_new yes) in
    let marks = c.in-Ok-Some-true.ensures.new yes in
    marks_one (population (entities_of c.args.markers.now)) c.args.entity (slot c.args.markers.now) (slot c.mark.new.storage) (marked_one _ _ c.args.entity marks.0 marks.2.becomes.map off) (sym alive)

pub returns-then-is_err-clause-marks : goal.returns-then-is_err-clause-marks
returns-then-is_err-clause-marks g c =
    let yes : c.in-Ok-Some-true.field-0 ≡ Some true = search rules in
    let alive : true ≡ is_alive (population (entities_of c.args.markers.now)) c.args.entity = sym (ap is_some yes) ∙ c.in-Ok-Some-true.ensures.dead in
    let off : marked_in (slot c.args.markers.now) (index_of c.args.entity) ≡ false = found_none _ _ alive (c.in-Ok-Some-true.ensures.is_new yes) in
    let marks = c.in-Ok-Some-true.ensures.new yes in
    marks_one (population (entities_of c.args.markers.now)) c.args.entity (slot c.args.markers.now) (slot c.mark.new.storage) (marked_one _ _ c.args.entity marks.0 marks.2.becomes.map off) (sym alive)

pub returns-in-Ok-None-clause-marks : goal.returns-in-Ok-None-clause-marks
returns-in-Ok-None-clause-marks g c =
    let no : c.in-Ok-None.field-0 ≡ None = search rules in
    let same : slot c.mark.new.storage ≡ slot c.args.markers.now = (c.in-Ok-None.ensures.old (λ e. none-some true (sym no ∙ e))).0 in
    marks_none (population (entities_of c.args.markers.now)) _ (slot c.args.markers.now) (slot c.mark.new.storage) (ap (λ (s : Slot g.row.M.Denot). s.map) same)

pub returns-in-Ok-None-clause-refused : goal.returns-in-Ok-None-clause-refused
returns-in-Ok-None-clause-refused g c =
    let no : c.in-Ok-None.field-0 ≡ None = search rules in
    let same : slot c.mark.new.storage ≡ slot c.args.markers.now = (c.in-Ok-None.ensures.old (λ e. none-some true (sym no ∙ e))).0 in
    ([], before_all (population (entities_of c.args.markers.now)) (c.args.entity ∷ []) (slot c.args.markers.now) (slot c.mark.new.storage) (ap (λ (s : Slot g.row.M.Denot). s.map) same), sym c.in-Ok-None.ensures.dead ∙ ap is_some no)

pub returns-then-is_err-clause-refused : goal.returns-then-is_err-clause-refused
returns-then-is_err-clause-refused g c =
    let yes : c.in-Ok-Some-true.field-0 ≡ Some true = search rules in
    let alive : true ≡ is_alive (population (entities_of c.args.markers.now)) c.args.entity = sym (ap is_some yes) ∙ c.in-Ok-Some-true.ensures.dead in
    let off : marked_in (slot c.args.markers.now) (index_of c.args.entity) ≡ false = found_none _ _ alive (c.in-Ok-Some-true.ensures.is_new yes) in
    let marks = c.in-Ok-Some-true.ensures.new yes in (
      [],
      after_all (population (entities_of c.args.markers.now)) (c.args.entity ∷ []) (slot c.args.markers.now) (slot c.mark.new.storage)
          (one_alive (population (entities_of c.args.markers.now)) c.args.entity (sym alive))
          (subst (HasMarked (slot c.args.markers.now) (slot c.mark.new.storage)) (sym (new_one (marked_in (slot c.args.markers.now)) c.args.entity off)) (marked_one _ _ c.args.entity marks.0 marks.2.becomes.map off)),
    )

pub returns-in-Err-IdsExhausted-clause-refused : goal.returns-in-Err-IdsExhausted-clause-refused
returns-in-Err-IdsExhausted-clause-refused g c = (c.args.entity, [], before_all (population (entities_of c.args.markers.now)) (c.args.entity ∷ []) (slot c.args.markers.now) (slot c.mark.new.storage) c.in-Err-IdsExhausted.ensures.err.map)

pub returns-in-Err-IdTaken-clause-refused : goal.returns-in-Err-IdTaken-clause-refused
returns-in-Err-IdTaken-clause-refused g c = (c.args.entity, [], before_all (population (entities_of c.args.markers.now)) (c.args.entity ∷ []) (slot c.args.markers.now) (slot c.mark.new.storage) c.in-Err-IdTaken.ensures.err.map)

pub returns-in-Err-clause-refused : goal.returns-in-Err-clause-refused
returns-in-Err-clause-refused g c = (c.args.entity ∷ [], before_all (population (entities_of c.args.markers.now)) (c.args.entity ∷ []) (slot c.args.markers.now) (slot c.mark.new.storage) c.in-Err.ensures.err.map)

pub returns-else-is_err-clause-gives : goal.returns-else-is_err-clause-gives
returns-else-is_err-clause-gives g c =
    let yes : c.in-Ok-Some-true.field-0 ≡ Some true = search rules in
    let pushed : c.push.new.self.items ≡ c.args.list.now.items ++ c.args.entity ∷ [] = search rules in
    (c.args.entity ∷ [], pushed, (c.mark.new.self, slot c.mark.new.storage, c.in-Ok-Some-true.ensures.new yes, c.in-Ok-Some-true.ensures.takes yes, (refl, refl)))

pub returns-in-Ok-Some-false-clause-gives : goal.returns-in-Ok-Some-false-clause-gives
returns-in-Ok-Some-false-clause-gives g c =
    let no : c.in-Ok-Some-false.field-0 ≡ Some false = search rules in
    let other = λ (e : c.in-Ok-Some-false.field-0 ≡ Some true). false≢true (same_Some false true (sym no ∙ e)) in
    ([], sym (append-nil c.args.list.now.items), (c.in-Ok-Some-false.ensures.old_self other, (c.in-Ok-Some-false.ensures.old other).0))

pub returns-then-is_err-clause-stops : goal.returns-then-is_err-clause-stops
returns-then-is_err-clause-stops g c =
    let yes : c.in-Ok-Some-true.field-0 ≡ Some true = search rules in
    turns_end g.M.Marker.id_of g.M.Identifier.PartialEq.eq g.A.MarkerAllocator.MayBeNew g.A.MarkerAllocator.mapping g.A.IdSupply.ids c.args.allocator.now c.mark.new.self (slot c.args.markers.now) (slot c.mark.new.storage) (c.args.entity ∷ [])
    (c.mark.new.self, slot c.mark.new.storage, c.in-Ok-Some-true.ensures.new yes, c.in-Ok-Some-true.ensures.takes yes, (refl, refl))

pub returns-in-Ok-None-clause-stops : goal.returns-in-Ok-None-clause-stops
returns-in-Ok-None-clause-stops g c =
    let no : c.in-Ok-None.field-0 ≡ None = search rules in
    let other = λ (e : c.in-Ok-None.field-0 ≡ Some true). none-some true (sym no ∙ e) in
    turns_end g.M.Marker.id_of g.M.Identifier.PartialEq.eq g.A.MarkerAllocator.MayBeNew g.A.MarkerAllocator.mapping g.A.IdSupply.ids c.args.allocator.now c.mark.new.self (slot c.args.markers.now) (slot c.mark.new.storage) []
    (c.in-Ok-None.ensures.old_self other, (c.in-Ok-None.ensures.old other).0)

pub returns-in-Err-IdsExhausted-clause-stops : goal.returns-in-Err-IdsExhausted-clause-stops
returns-in-Err-IdsExhausted-clause-stops g c = refused_at_once g.M.Marker.id_of g.M.Identifier.PartialEq.eq g.A.MarkerAllocator.MayBeNew g.A.MarkerAllocator.mapping g.A.IdSupply.ids c.args.allocator.now c.mark.new.self (slot c.args.markers.now) (slot c.mark.new.storage) c.args.entity c.in-Err-IdsExhausted.ensures.err c.in-Err-IdsExhausted.ensures.err_ids c.in-Err-IdsExhausted.ensures.err_mapped

pub returns-in-Err-IdTaken-clause-stops : goal.returns-in-Err-IdTaken-clause-stops
returns-in-Err-IdTaken-clause-stops g c = refused_at_once g.M.Marker.id_of g.M.Identifier.PartialEq.eq g.A.MarkerAllocator.MayBeNew g.A.MarkerAllocator.mapping g.A.IdSupply.ids c.args.allocator.now c.mark.new.self (slot c.args.markers.now) (slot c.mark.new.storage) c.args.entity c.in-Err-IdTaken.ensures.err c.in-Err-IdTaken.ensures.err_ids c.in-Err-IdTaken.ensures.err_mapped

pub returns-in-Err-clause-stops : goal.returns-in-Err-clause-stops
returns-in-Err-clause-stops g c = refused_at_once g.M.Marker.id_of g.M.Identifier.PartialEq.eq g.A.MarkerAllocator.MayBeNew g.A.MarkerAllocator.mapping g.A.IdSupply.ids c.args.allocator.now c.mark.new.self (slot c.args.markers.now) (slot c.mark.new.storage) c.args.entity c.in-Err.ensures.err c.in-Err.ensures.err_ids c.in-Err.ensures.err_mapped
