use Rattle.pages.proofs.RowLemmas.{joined_empty, empty_items, empty_pages}
use Rattle.pages.proofs.paged_row.PagedRow.new.Goals as goal

pub invariant_of-result : goal.invariant_of-result
invariant_of-result g c = joined_empty _ _ _ _ c.requires c.new.ensures.items c.new-2.ensures.items c.new-2.ensures.pages

pub returns-clause-items : goal.returns-clause-items
returns-clause-items g c = empty_items g.row.LEN g.T.Item.FILLER _ _ c.requires c.new.ensures.items c.new-2.ensures.items c.new-2.ensures.pages

pub returns-clause-pages : goal.returns-clause-pages
returns-clause-pages g c = empty_pages g.row.LEN g.T.Item.FILLER _ _ c.requires c.new.ensures.items c.new-2.ensures.items c.new-2.ensures.pages
