use Rattle.std.proofs.Common.{rules, ◌∙◌, sym, ap}
use Rattle.std.specs.Prelude.{◌&&◌, IsOk}
use Rattle.hibits.specs.Left.{left}
use Rattle.hibits.specs.Rows.{row_bit}
use Rattle.hibits.specs.Sets.{has_part_zero}
use Rattle.joins_parallel.proofs.InPlace.{stays, only_changes, is_changed, is_component, both_of, not_both}
use Rattle.joins_parallel.proofs.Replacing.{both_left, both_right}
use Rattle.joins_parallel.proofs.in_place.par_for_each.Goals as goal

pub change_each-requires-clause-called : goal.change_each-requires-clause-called
change_each-requires-clause-called g c κs within i x z lt is e w =
    let tie = ap (λ ws. row_bit ws i) c.deref.ensures.value ∙ c.in_ok-members.ensures.members i (c.in_ok-members.ensures.below i (sym (ap (λ ws. row_bit ws i) c.deref.ensures.value) ∙ is)) ∙ (λ t. (has_part_zero c.mask.result.now.members i ∙ c.mask.ensures i) t && c.open-mask.ensures.mask i t) in
    let both = sym tie ∙ is in
    c.requires.called i x z
    (is_component _ c.args.storage.now c.as_mut_slice-slice.result.now g.met.T.Storage.Placed.by_index c.as_mut_slice-slice.ensures.places i x.now (both_left _ _ both) e)
    (both_right _ _ both)
    (c.open-mask.ensures.gives i z (g.met.J.RepeatableJoin.same _ i z w))

pub change_each-requires-clause-ready : goal.change_each-requires-clause-ready
change_each-requires-clause-ready g c κs within i is =
    let tie = ap (λ ws. row_bit ws i) c.deref.ensures.value ∙ c.in_ok-members.ensures.members i (c.in_ok-members.ensures.below i (sym (ap (λ ws. row_bit ws i) c.deref.ensures.value) ∙ is)) ∙ (λ t. (has_part_zero c.mask.result.now.members i ∙ c.mask.ensures i) t && c.open-mask.ensures.mask i t) in
    g.met.J.RepeatableJoin.ready _ _ (c.open-mask.ensures.ready i (both_right _ _ (sym tie ∙ is)))

pub returns-clause-each : goal.returns-clause-each
returns-clause-each g c i lt has is =
    let tie = ap (λ ws. row_bit ws i) c.deref.ensures.value ∙ c.in_ok-members.ensures.members i lt ∙ (λ t. (has_part_zero c.mask.result.now.members i ∙ c.mask.ensures i) t && c.open-mask.ensures.mask i t) in
    is_changed _ c.args.storage.now _ _ _ g.met.T.Storage.Placed.by_index c.as_mut_slice-slice.ensures.places c.as_mut_slice-slice.ensures.each c.change_each.ensures.others _ _ _ (λ k z f. c.open-mask.ensures.gives k z (g.met.J.RepeatableJoin.same _ k z f)) c.change_each.ensures.changed i has (tie ∙ both_of _ _ has is)

pub returns-clause-others : goal.returns-clause-others
returns-clause-others g c i out =
    stays _ c.args.storage.now _ _ _ g.met.T.Storage.Placed.by_index c.as_mut_slice-slice.ensures.places c.as_mut_slice-slice.ensures.each c.change_each.ensures.others i
    (not_both _ _ _ (λ is. ap (λ ws. row_bit ws i) c.deref.ensures.value ∙ c.in_ok-members.ensures.members i (c.in_ok-members.ensures.below i (sym (ap (λ ws. row_bit ws i) c.deref.ensures.value) ∙ is)) ∙ (λ t. (has_part_zero c.mask.result.now.members i ∙ c.mask.ensures i) t && c.open-mask.ensures.mask i t)) out)

pub returns-clause-rest : goal.returns-clause-rest
returns-clause-rest g c = only_changes _ c.args.storage.now _ _ _ g.met.T.Storage.Placed.by_index c.as_mut_slice-slice.ensures.places c.as_mut_slice-slice.ensures.each c.change_each.ensures.others

pub returns-in_err-members-clause-idle : goal.returns-in_err-members-clause-idle
returns-in_err-members-clause-idle g c none =
    let tail = ap (λ p. left p 0) (λ t i. (has_part_zero c.mask.result.now.members i ∙ c.mask.ensures i) t && c.open-mask.ensures.mask i t) in
    let idle : IsOk c.row_of.result = c.row_of.ensures.idle (tail ∙ none) in
    search rules
