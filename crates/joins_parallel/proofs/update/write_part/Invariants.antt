use Rattle.std.specs.Vec.Iter.{into_iter_items}
use Rattle.joins_parallel.proofs.Replacing.{IsPutting}
use Rattle.joins_parallel.proofs.update.write_part.Given as goal

abbrev pub invariant-loop-id : goal.invariant-loop-id
invariant-loop-id g l =
    (goal.iterator-loop-id g).can_next l.id-iterator ×
    (goal.iterator-loop-id g).is_finite l.id-iterator ×
    IsPutting l.storage l.initial.storage (into_iter_items l.id-iterator) l.fn.part.items
