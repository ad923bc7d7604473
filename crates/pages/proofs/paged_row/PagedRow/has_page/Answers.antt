use Rattle.std.proofs.Common.{arith, sym, ◌∙◌}
use Rattle.pages.proofs.RowLemmas.{row_has, behind_has, page_in_row, page_past_row, one_within, one_missing}
use Rattle.pages.proofs.paged_row.PagedRow.has_page.Goals as goal

pub returns-then-at-len-clause-value : goal.returns-then-at-len-clause-value
returns-then-at-len-clause-value g c = sym (row_has _ g.T.Item.FILLER _ _ c.self.invariant _ c.self.view_is _ (page_in_row _ g.T.Item.FILLER _ _ c.self.invariant c.args.at (omega arith)))

pub returns-then-at-len-clause-within : goal.returns-then-at-len-clause-within
returns-then-at-len-clause-within g c = one_within _ g.T.Item.FILLER _ _ c.self.invariant _ c.self.view_is

pub returns-then-at-len-clause-missing : goal.returns-then-at-len-clause-missing
returns-then-at-len-clause-missing g c = one_missing _ g.T.Item.FILLER _ _ c.self.invariant _ c.self.view_is

pub returns-clause-value : goal.returns-clause-value
returns-clause-value g c = c.has_page_behind.ensures ∙ sym (behind_has _ g.T.Item.FILLER _ _ c.self.invariant _ c.self.view_is _ (page_past_row _ g.T.Item.FILLER _ _ c.self.invariant c.args.at (omega arith)))

pub returns-clause-within : goal.returns-clause-within
returns-clause-within g c = one_within _ g.T.Item.FILLER _ _ c.self.invariant _ c.self.view_is

pub returns-clause-missing : goal.returns-clause-missing
returns-clause-missing g c = one_missing _ g.T.Item.FILLER _ _ c.self.invariant _ c.self.view_is
