use Rattle.std.proofs.Common.{◌≡◌, ◌*◌}
use Rattle.hibits.specs.Counts.{count_below}
use Rattle.hibits.specs.Rows.{row_bit}
use Rattle.hibits.proofs.rows.ones_of.Given as goal

abbrev pub invariant-loop-word : goal.invariant-loop-word
invariant-loop-word l = l.ones ≡ count_below (row_bit l.words) (64 * l.word-index)
