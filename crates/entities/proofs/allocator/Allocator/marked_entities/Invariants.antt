use Rattle.std.proofs.Common.{◌≡◌, ◌++◌, map}
use Rattle.hibits.specs.Left.{left}
use Rattle.hibits.specs.Sets.{has_part}
use Rattle.hibits.specs.WalkOf.{IsWalkOf, position}
use Rattle.entities.specs.Census.{population}
use Rattle.entities.specs.Merges.{living_entity}
use Rattle.entities.specs.Limits.{indices_ahead}
use Rattle.entities.proofs.allocator.Allocator.marked_entities.Given as goal

abbrev pub invariant-loop-id : goal.invariant-loop-id
invariant-loop-id l = record {
  walk : IsWalkOf (has_part l.fn.self.killed) 1 l.walk;
  items : l.dead.items ++ map (living_entity (population l.fn.self)) (left (has_part l.fn.self.killed 0) (position l.walk)) ≡ map (living_entity (population l.fn.self)) (left (has_part l.fn.self.killed 0) 0);
}

abbrev pub decreases-loop-id : goal.decreases-loop-id
decreases-loop-id l = indices_ahead (position l.walk)
