use Rattle.std.proofs.Common.{◌≡◌, ◌-◌, ◌++◌, map}
use Rattle.hibits.specs.declared.limits.TheConstants.{INDEX_LIMIT}
use Rattle.hibits.specs.Left.{left}
use Rattle.hibits.specs.WalkOf.{IsWalkOf, position}
use Rattle.entities.specs.Census.{population}
use Rattle.entities.specs.Merges.{living_entity}
use Rattle.specs.proofs.world.everyone.list_of.Given as goal

abbrev pub invariant-loop-i : goal.invariant-loop-i
invariant-loop-i g l =
    let has = g.M.Layers.has l.fn.mask in
    let listed = map (living_entity (population l.fn.entities)) in
    record {
      walk : IsWalkOf has (g.M.Layers.cost l.fn.mask) l.walk;
      items : l.list.items ++ listed (left (has 0) (position l.walk)) ≡ listed (left (has 0) 0);
    }

abbrev pub decreases-loop-i : goal.decreases-loop-i
decreases-loop-i g l = INDEX_LIMIT - position l.walk
