use Rattle.std.proofs.Common.{◌≡◌, ◌*◌}
use Rattle.hibits.specs.Counts.{count_below}
use Rattle.hibits.specs.Rows.{row_bit}
use Rattle.hibits.proofs.lowest.ones_of_lowest.Given as goal

abbrev pub invariant-loop-page : goal.invariant-loop-page
invariant-loop-page l = l.ones ≡ count_below (row_bit l.words.items) (4096 * l.page)
