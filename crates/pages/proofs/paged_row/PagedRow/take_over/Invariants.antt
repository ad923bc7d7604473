use Rattle.std.proofs.Common.{◌≡◌}
use Rattle.pages.proofs.paged_row.PagedRow.take_over.Given as goal

abbrev pub invariant-loop-page : goal.invariant-loop-page
invariant-loop-page g l = l.self ≡ l.initial.self
