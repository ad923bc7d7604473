use Rattle.std.proofs.Common.{flat_map}
use Rattle.std.specs.Vec.Iter.{into_iter_items}
use Rattle.joins_parallel.proofs.Replacing.{IsPutting}
use Rattle.joins_parallel.proofs.update.write_all.Given as goal

abbrev pub invariant-loop-part : goal.invariant-loop-part
invariant-loop-part g l =
    (goal.iterator-loop-part g).can_next l.part-iterator ×
    (goal.iterator-loop-part g).is_finite l.part-iterator ×
    IsPutting l.storage l.initial.storage (flat_map (λ w. w.items) (into_iter_items l.part-iterator)) (flat_map (λ w. w.items) l.fn.parts.items)
