use Rattle.std.proofs.Common.{arith, sym, ◌∙◌}
use Rattle.pages.proofs.RowLemmas.{read_row, behind_item, behind_has, page_past_row}
use Rattle.pages.proofs.paged_row.PagedRow.get_present.Goals as goal

pub returns-then-at-len : goal.returns-then-at-len
returns-then-at-len g c = read_row _ g.T.Item.FILLER _ _ c.self.invariant _ c.self.view_is c.args.at _ (omega arith) c.index.ensures

pub get_present_behind-requires : goal.get_present_behind-requires
get_present_behind-requires g c = (omega arith, sym (behind_has _ g.T.Item.FILLER _ _ c.self.invariant _ c.self.view_is _ (page_past_row _ g.T.Item.FILLER _ _ c.self.invariant c.args.at (omega arith))) ∙ c.requires)

pub returns : goal.returns
returns g c = c.get_present_behind.ensures ∙ sym (behind_item _ g.T.Item.FILLER _ _ c.self.invariant _ c.self.view_is c.args.at (omega arith))
