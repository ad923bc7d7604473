use Rattle.std.proofs.Common.{◌≡◌, ◌≤◌, ℕ, vec_len, Some}
use Rattle.std.specs.Vec.{vec_capacity}
use Rattle.std.specs.Prelude.{slice_get}
use Rattle.storages.proofs.kinds.default_vec_storage.extend_to.Given as goal

abbrev pub invariant-loop-i : goal.invariant-loop-i
invariant-loop-i g l = record {
  len : vec_len l.items ≡ l._i;
  room : l.len ≤ vec_capacity l.items;
  values : (q : ℕ) (x : _) → slice_get l.fn.items.items q ≡ Some x → slice_get l.items.items q ≡ Some x;
}
