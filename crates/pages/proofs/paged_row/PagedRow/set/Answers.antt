use Rattle.std.proofs.Common.{set as list_set, arith, ap, sym, ◌∙◌}
use Rattle.pages.specs.Joined.{joined}
use Rattle.pages.proofs.RowLemmas.{set_in_row, set_past_row, joined_set, behind_has, page_past_row}
use Rattle.pages.proofs.paged_row.PagedRow.set.Goals as goal

pub returns-then-at-len-clause-items : goal.returns-then-at-len-clause-items
returns-then-at-len-clause-items g c = set_in_row _ _ _ _ (omega arith) ∙ ap (λ s. list_set s.items c.args.at c.args.item) c.self.view_is

pub set_behind-requires : goal.set_behind-requires
set_behind-requires g c = (omega arith, sym (behind_has _ g.T.Item.FILLER _ _ c.self.invariant _ c.self.view_is _ (page_past_row _ g.T.Item.FILLER _ _ c.self.invariant c.args.at (omega arith))) ∙ c.requires)

pub invariant_of-self-2 : goal.invariant_of-self-2
invariant_of-self-2 g c =
    joined_set _ g.T.Item.FILLER _ _ _ c.self.invariant c.args.at c.args.item (sym (behind_has _ g.T.Item.FILLER _ _ c.self.invariant _ c.self.view_is _ (page_past_row _ g.T.Item.FILLER _ _ c.self.invariant c.args.at (omega arith))) ∙ c.requires) c.set_behind.ensures.items c.set_behind.ensures.pages

pub returns-clause-items : goal.returns-clause-items
returns-clause-items g c =
    ap (joined c.self.inside.row.items) c.set_behind.ensures.items
    ∙ set_past_row _ _ _ _ (omega arith)
    ∙ ap (λ s. list_set s.items c.args.at c.args.item) c.self.view_is
