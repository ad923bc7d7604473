use Rattle.std.proofs.Common.{◌≡◌, ◌≤◌, ℕ, vec_len}
use Rattle.std.specs.Vec.{vec_capacity}
use Rattle.storages.specs.Vec.{value_at}
use Rattle.storages.proofs.kinds.vec_storage.extend_to.Given as goal

abbrev pub invariant-loop-i : goal.invariant-loop-i
invariant-loop-i g l = record {
  len : vec_len l.items ≡ l._i;
  room : l.len ≤ vec_capacity l.items;
  values : (q : ℕ) → value_at l.items.items q ≡ value_at l.fn.items.items q;
}
