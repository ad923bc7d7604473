use Rattle.std.proofs.Common.{◌≡◌, ◌≤◌}
use Rattle.std.specs.FinSet as set
use Rattle.pages.proofs.CountLemmas.{first_of}
use Rattle.pages.proofs.paged_row.PagedRow.count.Given as goal

abbrev pub invariant-loop-page : goal.invariant-loop-page
invariant-loop-page g l = (l.count ≡ set.len (first_of l.self.pages l.page)) × (l.count ≤ l.page)
