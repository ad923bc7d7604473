use Rattle.std.proofs.Common.{arith}
use Rattle.pages.proofs.TableLemmas.{insert_there}
use Rattle.pages.proofs.RowLemmas.{row_has, page_in_row, one_length_there}
use Rattle.pages.proofs.paged_row.PagedRow.reserve.Goals as goal

pub returns-then-at-len-clause-pages : goal.returns-then-at-len-clause-pages
returns-then-at-len-clause-pages g c = insert_there _ _ (row_has _ g.T.Item.FILLER _ _ c.self.invariant _ c.self.view_is _ (page_in_row _ g.T.Item.FILLER _ _ c.self.invariant c.args.at (omega arith)))

pub returns-then-at-len-clause-len : goal.returns-then-at-len-clause-len
returns-then-at-len-clause-len g c = one_length_there _ g.T.Item.FILLER _ _ c.self.invariant _ c.self.view_is _ (row_has _ g.T.Item.FILLER _ _ c.self.invariant _ c.self.view_is _ (page_in_row _ g.T.Item.FILLER _ _ c.self.invariant c.args.at (omega arith)))
