use Rattle.joins_parallel.proofs.Asking.{asked_next, asked_past}
use Rattle.joins_parallel.proofs.pieces.piece.Goals as goal
use Rattle.joins_parallel.proofs.pieces.piece.Goals.{in-Some+in_ok-push, in_default}

pub loop-i-preserved : goal.loop-i-preserved
loop-i-preserved g c =
    elim c.match-f.branch [
      | in-Some+in_ok-push w ↦
          rw (w.made-is, w.in_ok-push.ensures.items)
          (asked_next (λ i o. goal.F-post g c.args.f.now i o) c.args.part.now c.loop-i.i-index 0 c.loop-i-test.true c.loop-i.made.items c.loop-i.invariant w.in-Some.value (rw w.in-Some.is at c.f.ensures))
      | in_default w ↦
          rw w.made-is
          (asked_past (λ i o. goal.F-post g c.args.f.now i o) c.args.part.now c.loop-i.i-index 0 c.loop-i-test.true c.loop-i.made.items c.loop-i.invariant (rw w.in_default.is at c.f.ensures))
    ]
