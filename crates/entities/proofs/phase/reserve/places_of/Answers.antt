use Rattle.std.proofs.Common.{◌∙◌, length-set, arith, sym}
use Rattle.entities.proofs.Phases.Reserve.{placed_more, placed_past}
use Rattle.entities.proofs.phase.reserve.places_of.Goals as goal
use Rattle.entities.proofs.phase.reserve.places_of.Goals.{then-index-born, else-index-born}

pub loop-place-preserved : goal.loop-place-preserved
loop-place-preserved c = elim c.if-index-born.branch [
  | then-index-born w ↦ rw w.places-is (record {
    len = length-set c.loop-place.places.items c.index_at-index.result c.loop-place.place ∙ c.loop-place.invariant.len;
    placed = placed_more c.args.reserve.now c.args.born c.loop-place.place c.index_at-index.result c.loop-place.places.items c.loop-place.invariant.len (λ d. sym (c.index_at-index.ensures d)) w.if-index-born.true c.loop-place.invariant.placed;
  })
  | else-index-born w ↦ rw w.places-is (record {
    len = c.loop-place.invariant.len;
    placed = placed_past c.args.reserve.now c.args.born c.loop-place.place c.loop-place.places.items (λ d. omega (arith, c.index_at-index.ensures d, w.if-index-born.false)) c.loop-place.invariant.placed;
  })
]
