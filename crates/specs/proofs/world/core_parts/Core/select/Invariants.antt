use Rattle.std.proofs.Common.{◌≡◌, ◌-◌, ◌++◌}
use Rattle.hibits.specs.declared.limits.TheConstants.{INDEX_LIMIT}
use Rattle.hibits.specs.Left.{left}
use Rattle.hibits.specs.MaskExprs.{expr_has, expr_cost}
use Rattle.hibits.specs.Sets.{has_part}
use Rattle.hibits.specs.WalkOf.{IsWalkOf, position}
use Rattle.specs.proofs.world.core_parts.Core.select.Given as goal

abbrev pub invariant-loop-i : goal.invariant-loop-i
invariant-loop-i g l = record {
  same : l.mask ≡ l.initial.mask;
  walk : IsWalkOf (expr_has (λ m. has_part m.now.members) l.mask) (expr_cost (λ _. 1) l.mask) l.walk;
  indices : l.indices.items ++ left (expr_has (λ m. has_part m.now.members) l.mask 0) (position l.walk) ≡ left (expr_has (λ m. has_part m.now.members) l.mask 0) 0;
}

abbrev pub decreases-loop-i : goal.decreases-loop-i
decreases-loop-i g l = INDEX_LIMIT - position l.walk
