use Rattle.std.proofs.Common.{◌≡◌, ◌⊎◌, ◌<◌, ℕ, true}
use Rattle.hibits.specs.Sets.{has_part, HasRoom}
use Rattle.hibits.specs.WalkOf.{IsWalkOf, position}
use Rattle.entities.specs.Census.{has}
use Rattle.entities.specs.Limits.{indices_ahead}
use Rattle.entities.proofs.allocator.merging.add_all.Given as goal

abbrev pub invariant-loop-i : goal.invariant-loop-i
invariant-loop-i l = record {
  walk : IsWalkOf (has_part l.fn.others.members) 1 l.walk;
  kept : (q : ℕ) → has l.fn.indices.members q ≡ true → has l.indices.members q ≡ true;
  added : (q : ℕ) → has l.fn.others.members q ≡ true → q < position l.walk → has l.indices.members q ≡ true;
  within : (q : ℕ) → has l.indices.members q ≡ true → (has l.fn.indices.members q ≡ true) ⊎ (has l.fn.others.members q ≡ true);
  room : (q : ℕ) → HasRoom l.fn.indices q → HasRoom l.indices q;
}

abbrev pub decreases-loop-i : goal.decreases-loop-i
decreases-loop-i l = indices_ahead (position l.walk)
