use Rattle.std.proofs.Common.{◌≡◌, ℕ, ◌*◌, ◌<◌, true}
use Rattle.hibits.specs.Rows.{row_bit}
use Rattle.hibits.proofs.rows.covers_row.Given as goal

abbrev pub invariant-loop-k : goal.invariant-loop-k
invariant-loop-k l = (i : ℕ) → i < 64 * l.k → row_bit l.inner i ≡ true → row_bit l.outer i ≡ true
