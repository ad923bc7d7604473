use Rattle.std.proofs.Common.{◌≡◌, ◌-◌, ◌+◌, ◌++◌, ◌&&◌, ◌||◌, ℕ, map}
use Rattle.hibits.specs.declared.limits.TheConstants.{INDEX_LIMIT}
use Rattle.hibits.specs.Left.{left}
use Rattle.hibits.specs.Sets.{has_part}
use Rattle.hibits.specs.WalkOf.{IsWalkOf, position}
use Rattle.entities.specs.Census.{population}
use Rattle.saveload.specs.Saved.{entity_at}
use Rattle.saveload.proofs.save.marked.Given as goal

abbrev pub invariant-loop-i : goal.invariant-loop-i
invariant-loop-i g l =
    let has = λ (n : ℕ) (i : ℕ). (has_part l.mask.0.0.now.members n i || has_part l.mask.0.1.now.members n i) && has_part l.mask.1.now.members n i in
    record {
      same : l.mask ≡ l.initial.mask;
      walk : IsWalkOf has (1 + 1 + 1) l.walk;
      list : l.list.items ++ map (entity_at (population l.entities)) (left (has 0) (position l.walk)) ≡ map (entity_at (population l.entities)) (left (has 0) 0);
    }

abbrev pub decreases-loop-i : goal.decreases-loop-i
decreases-loop-i g l = INDEX_LIMIT - position l.walk
