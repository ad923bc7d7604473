use Rattle.std.proofs.Common.{[], ◌∷◌, ◌++◌, refl}
use Rattle.joins_parallel.proofs.Asking.{asks_none, asks_next, asks_past, next_of, one_more}
use Rattle.joins_parallel.proofs.pieces.ask_word.Goals as goal

pub loop-i-init : goal.loop-i-init
loop-i-init g c = ([], refl, asks_none _ _)

pub f-requires : goal.f-requires
f-requires g c = next_of (λ i. goal.F-pre g c.args.f.now i) _ _ _ _ (one_more _ _ _ _ c.in-Some.ensures.items c.loop-i.invariant.1) c.requires.called

pub loop-i-preserved : goal.loop-i-preserved
loop-i-preserved g c = (
  c.loop-i.invariant.0 ++ c.in-Some.i ∷ [],
  one_more _ _ _ _ c.in-Some.ensures.items c.loop-i.invariant.1,
  asks_past _ _ _ _ c.loop-i.invariant.2 c.in-Some.i c.in_default-f.ensures,
)

pub loop-i-preserved-in-Continue-1 : goal.loop-i-preserved-in-Continue-1
loop-i-preserved-in-Continue-1 g c = (
  c.loop-i.invariant.0 ++ c.in-Some.i ∷ [],
  one_more _ _ _ _ c.in-Some.ensures.items c.loop-i.invariant.1,
  rw c.in_ok-push.ensures.items (asks_next _ _ _ _ c.loop-i.invariant.2 c.in-Some.i c.in-Some-f.value c.in-Some-f.ensures),
)
