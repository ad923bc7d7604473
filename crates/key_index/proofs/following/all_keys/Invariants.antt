use Rattle.std.proofs.Common.{◌≡◌, ◌-◌, ℕ}
use Rattle.std.specs.FinMap as map
use Rattle.hibits.specs.declared.limits.TheConstants.{INDEX_LIMIT}
use Rattle.hibits.specs.Sets.{has_part}
use Rattle.key_index.specs.Indexed.{key_in}
use Rattle.key_index.specs.Keys.{key_at}
use Rattle.key_index.proofs.Walking.{IsWalked}
use Rattle.key_index.proofs.following.all_keys.Given as goal

abbrev pub invariant-loop-id : goal.invariant-loop-id
invariant-loop-id g l = record {
  member : (i : ℕ) → has_part l.walk.mask.now.members 0 i ≡ map.contains_key l.masked.map i;
  walked : IsWalked (key_at l.lists) (key_in (g.K.KeyOf.key l.key) l.masked) l.walk.position;
}

abbrev pub decreases-loop-id : goal.decreases-loop-id
decreases-loop-id g l = INDEX_LIMIT - l.walk.position
