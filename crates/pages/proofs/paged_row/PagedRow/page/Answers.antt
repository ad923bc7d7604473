use Rattle.std.proofs.Common.{◌+◌, ◌-◌, ◌*◌, length, take, drop, get_or, arith, ap, sym, ◌∙◌}
use Rattle.std.specs.Bool.{if◌then◌else◌}
use Rattle.pages.proofs.TableLemmas.{length_part, item_part}
use Rattle.pages.proofs.RowLemmas.{row_has, row_item, behind_has, behind_item, start_in_row, part_in_row, start_past_row}
use Rattle.pages.proofs.paged_row.PagedRow.page.Goals as goal

pub returns-then-start-len-clause-len : goal.returns-then-start-len-clause-len
returns-then-start-len-clause-len g c =
    ap (λ xs. length (take (c.args.page * g.row.LEN + g.row.LEN - c.args.page * g.row.LEN) (drop (c.args.page * g.row.LEN) xs))) c.deref.ensures.value
    ∙ length_part _ g.T.Item.FILLER _ _ (part_in_row _ g.T.Item.FILLER _ _ c.self.invariant c.args.page (omega arith))
    ∙ sym (ap (λ b. if b then g.row.LEN else 0) (row_has _ g.T.Item.FILLER _ _ c.self.invariant _ c.self.view_is c.args.page (start_in_row _ g.T.Item.FILLER _ _ c.self.invariant c.args.page (omega arith))))

pub returns-then-start-len-clause-items : goal.returns-then-start-len-clause-items
returns-then-start-len-clause-items g c j lt =
    let p = part_in_row _ g.T.Item.FILLER _ _ c.self.invariant c.args.page (omega arith) in
    ap (λ xs. get_or (take (c.args.page * g.row.LEN + g.row.LEN - c.args.page * g.row.LEN) (drop (c.args.page * g.row.LEN) xs)) j g.T.Item.FILLER) c.deref.ensures.value
    ∙ item_part _ _ _ _ j lt
    ∙ sym (row_item _ g.T.Item.FILLER _ _ c.self.invariant _ c.self.view_is (c.args.page * g.row.LEN + j) (omega (arith, p)))

pub returns-clause-len : goal.returns-clause-len
returns-clause-len g c =
    c.page_behind.ensures.len ∙ sym (ap (λ b. if b then g.row.LEN else 0) (behind_has _ g.T.Item.FILLER _ _ c.self.invariant _ c.self.view_is c.args.page (start_past_row _ g.T.Item.FILLER _ _ c.self.invariant c.args.page (omega arith))))

pub returns-clause-items : goal.returns-clause-items
returns-clause-items g c j lt = c.page_behind.ensures.items j lt ∙ sym (behind_item _ g.T.Item.FILLER _ _ c.self.invariant _ c.self.view_is (c.args.page * g.row.LEN + j) (omega arith))
