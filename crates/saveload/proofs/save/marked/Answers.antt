use Rattle.std.proofs.Common.{◌&&◌, ◌||◌, ℕ, Bool, List, map, ap, sym, subst, ◌∙◌, append-nil, refl}
use mathlib.Core.Path.{fun_ext}
use Rattle.hibits.specs.Left.{left}
use Rattle.hibits.specs.Sets.{has_part, has_part_zero}
use Rattle.entities.specs.Census.{population}
use Rattle.entities.specs.declared.entity.Entity.{Entity}
use Rattle.saveload.specs.Conversion.{Has}
use Rattle.saveload.specs.Saved.{entity_at}
use Rattle.saveload.proofs.Whole.{marked_whole}
use Rattle.saveload.proofs.Lists.{some_behind}
use Rattle.saveload.proofs.save.marked.Goals as goal

pub returns-clause-list : goal.returns-clause-list
returns-clause-list g c =
    let f = entity_at (population c.args.entities.now) in
    let inv = c.loop-i.invariant.list in
    let done = rw c.in_default.ensures.items at inv in
    let all = sym (append-nil c.loop-i.list.items) ∙ done in
    all
    ∙ ap (λ m. map f (left (λ i. (has_part m.0.0.now.members 0 i || has_part m.0.1.now.members 0 i) && has_part m.1.now.members 0 i) 0)) c.loop-i.invariant.same
    ∙ ap (λ (p : ℕ → Bool). map f (left p 0)) (fun_ext (λ i. rw (has_part_zero c.living.result.0.now.members i, has_part_zero c.living.result.1.now.members i, has_part_zero c.mask.result.now.members i, c.living.ensures.merged i, c.living.ensures.pending i, c.mask.ensures i) refl))

pub returns-clause-whole : goal.returns-clause-whole
returns-clause-whole g c = λ e h. subst (λ (l : List Entity). Has l e) (sym (returns-clause-list g c)) (marked_whole c.args.entities.now c.args.markers.now c.limited.ensures e h)

pub returns-in_err-push-clause-idle : goal.returns-in_err-push-clause-idle
returns-in_err-push-clause-idle g c = λ none.
    let f = entity_at (population c.args.entities.now) in
    let inv = c.loop-i.invariant.list in
    let here = rw c.in-Some.ensures.items at inv in
    absurd (some_behind c.loop-i.list.items _ _ (here
    ∙ ap (λ m. map f (left (λ i. (has_part m.0.0.now.members 0 i || has_part m.0.1.now.members 0 i) && has_part m.1.now.members 0 i) 0)) c.loop-i.invariant.same
    ∙ ap (λ (p : ℕ → Bool). map f (left p 0)) (fun_ext (λ i. rw (has_part_zero c.living.result.0.now.members i, has_part_zero c.living.result.1.now.members i, has_part_zero c.mask.result.now.members i, c.living.ensures.merged i, c.living.ensures.pending i, c.mask.ensures i) refl))
    ∙ none))
