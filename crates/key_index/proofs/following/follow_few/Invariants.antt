use Rattle.std.proofs.Common.{◌≡◌, ◌<◌, ℕ, cond, take}
use Rattle.hibits.specs.declared.limits.TheConstants.{INDEX_LIMIT}
use Rattle.storages.specs.Named.{is_named}
use Rattle.key_index.specs.Indexed.{key_in}
use Rattle.key_index.specs.Keys.{key_at}
use Rattle.key_index.proofs.following.follow_few.Given as goal

abbrev pub invariant-loop-place : goal.invariant-loop-place
invariant-loop-place g l = (i : ℕ) → i < INDEX_LIMIT → key_at l.lists i ≡ cond (is_named i (take l.place l.events)) (key_in (g.K.KeyOf.key l.key) l.masked i) (key_at l.initial.lists i)
