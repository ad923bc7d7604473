use Rattle.std.proofs.Common.{◌≡◌, ◌<◌, ℕ, cond, take}
use Rattle.std.specs.BTreeSet.{contains}
use Rattle.std.specs.Ordering.{nat_cmp}
use Rattle.hibits.specs.declared.limits.TheConstants.{INDEX_LIMIT}
use Rattle.storages.specs.Named.{is_named}
use Rattle.key_index.specs.Indexed.{key_in}
use Rattle.key_index.specs.Keys.{key_at}
use Rattle.key_index.proofs.following.follow_many.Given as goal

abbrev pub invariant-loop-event : goal.invariant-loop-event
invariant-loop-event g l = record {
  seen : (i : ℕ) → i < INDEX_LIMIT → contains nat_cmp l.followed i ≡ is_named i (take l.event-index l.events);
  kept : (i : ℕ) → i < INDEX_LIMIT → key_at l.lists i ≡ cond (is_named i (take l.event-index l.events)) (key_in (g.K.KeyOf.key l.key) l.masked i) (key_at l.initial.lists i);
}
