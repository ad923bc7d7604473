use Rattle.std.proofs.Common.{ℕ, ◌≤◌, length}
use Rattle.std.specs.List.{FoldsTo}
use Rattle.hibits.specs.Left.{left}
use Rattle.joins.proofs.iter.JoinIter.fold.Given as goal

abbrev pub invariant-loop-item : goal.invariant-loop-item
invariant-loop-item g l = record {
  given : (i : ℕ) (r : _) → l.self.keys.position ≤ i → g.J.Join.value_gives l.self.values i r → g.J.Join.value_gives l.initial.self.values i r;
  calls : (last : _)
      → FoldsTo (λ p i q. (r : _) × g.J.Join.value_gives l.initial.self.values i r × goal.F-post g l.f p r q) l.sum (left (g.J.Mask.Layers.has l.self.keys.mask 0) l.self.keys.position) last
      → FoldsTo (λ p i q. (r : _) × g.J.Join.value_gives l.initial.self.values i r × goal.F-post g l.f p r q) l.fn.init (left (g.J.Mask.Layers.has l.initial.self.keys.mask 0) l.initial.self.keys.position) last;
}

abbrev pub decreases-loop-item : goal.decreases-loop-item
decreases-loop-item g l = length (left (g.J.Mask.Layers.has l.self.keys.mask 0) l.self.keys.position)
