use Rattle.std.proofs.Common.{sym, ◌∙◌}
use Rattle.pages.proofs.TableLemmas.{insert_there}
use Rattle.pages.proofs.paged_row.PagedRow.reserve_past.Goals as goal

pub returns-then-has_page-clause-pages : goal.returns-then-has_page-clause-pages
returns-then-has_page-clause-pages g c = insert_there _ _ (sym c.has_page.ensures.value ∙ c.if-has_page.true)
