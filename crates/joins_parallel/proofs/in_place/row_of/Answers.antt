use Rattle.std.proofs.Common.{arith, refl, subst, ◌∙◌, ℕ, ◌*◌, ◌<◌, ◌≤◌, true, ◌≡◌}
use Rattle.hibits.specs.declared.limits.TheConstants.{INDEX_LIMIT}
use Rattle.hibits.specs.Words.{IsNextWord}
use Rattle.joins_parallel.proofs.InPlace.{no_row, no_words, row_all, row_below, row_more}
use Rattle.joins_parallel.proofs.in_place.row_of.Goals as goal

pub loop-place-init : goal.loop-place-init
loop-place-init g c = (c.new-walk.ensures.mask, no_row _ _ _ c.new-walk.ensures.position c.new-row.ensures.items)

pub loop-place-preserved : goal.loop-place-preserved
loop-place-preserved g c =
    let mask = c.loop-place.invariant.0 in
    let next = subst (λ m. IsNextWord (g.M.Layers.has m 0) c.loop-place.walk.position c.in-Some.place c.in-Some.word) mask c.in-Some.ensures.next in (
      c.in-Some.ensures.mask ∙ mask,
      rw (c.in-Some.ensures.after, c.in_ok-push.ensures.items, c.in_ok-resize.ensures.items) (row_more _ (g.M.Layers.has c.args.mask 0) c.loop-place.walk.position c.loop-place.invariant.1 c.in-Some.place c.in-Some.word _ next c.in-Some.ensures.below (let e = c.loop-place.row.ok in omega (arith, e))),
    )

pub returns : goal.returns
returns g c = let mask = c.loop-place.invariant.0 in record {
  members = row_all _ _ _ c.loop-place.invariant.1 (subst (λ m. (i : ℕ) → 64 * c.loop-place.walk.position ≤ i → i < INDEX_LIMIT → g.M.Layers.has m 0 i ≡ true → ⊥) mask c.in_default.ensures.end);
  below = row_below _ _ _ c.loop-place.invariant.1;
  idle = λ none. refl;
}

pub returns-in_err-resize-clause-idle : goal.returns-in_err-resize-clause-idle
returns-in_err-resize-clause-idle g c none =
    absurd (no_words (g.M.Layers.has c.loop-place.walk.mask 0) c.loop-place.walk.position (rw (← c.loop-place.invariant.0) at none) c.in-Some.ensures.items)

pub returns-in_err-push-clause-idle : goal.returns-in_err-push-clause-idle
returns-in_err-push-clause-idle g c none =
    absurd (no_words (g.M.Layers.has c.loop-place.walk.mask 0) c.loop-place.walk.position (rw (← c.loop-place.invariant.0) at none) c.in-Some.ensures.items)
