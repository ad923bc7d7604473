use Rattle.std.proofs.Common.{arith, sym, ◌∙◌}
use Rattle.pages.proofs.RowLemmas.{read_row, behind_item}
use Rattle.pages.proofs.paged_row.PagedRow.get.Goals as goal

pub returns-then-at-len : goal.returns-then-at-len
returns-then-at-len g c = read_row _ g.T.Item.FILLER _ _ c.self.invariant _ c.self.view_is c.args.at _ (omega arith) c.index.ensures

pub returns : goal.returns
returns g c = c.get_behind.ensures ∙ sym (behind_item _ g.T.Item.FILLER _ _ c.self.invariant _ c.self.view_is c.args.at (omega arith))
