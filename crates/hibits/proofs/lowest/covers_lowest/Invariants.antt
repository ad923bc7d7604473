use Rattle.std.proofs.Common.{◌≡◌, ℕ, ◌*◌, ◌<◌, true}
use Rattle.hibits.specs.Rows.{row_bit}
use Rattle.hibits.proofs.lowest.covers_lowest.Given as goal

abbrev pub invariant-loop-page : goal.invariant-loop-page
invariant-loop-page l = (i : ℕ) → i < 4096 * l.page → row_bit l.inner.items i ≡ true → row_bit l.outer.items i ≡ true
