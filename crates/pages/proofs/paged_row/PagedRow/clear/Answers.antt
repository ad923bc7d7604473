use Rattle.std.proofs.Common.{arith}
use Rattle.pages.proofs.paged_row.PagedRow.clear.Goals as goal

pub new-requires : goal.new-requires
new-requires g c = (omega arith, c.self.invariant.some)
