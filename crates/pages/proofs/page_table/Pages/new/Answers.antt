use Rattle.pages.proofs.TableLemmas.{no_items, no_pages, sound_empty}
use Rattle.pages.proofs.page_table.Pages.new.Goals as goal

pub invariant_of-result : goal.invariant_of-result
invariant_of-result g c = sound_empty _ _ _ c.requires c.new.ensures.items c.new-2.ensures.items

pub returns-clause-items : goal.returns-clause-items
returns-clause-items g c = no_items _ _ _ _ c.new.ensures.items

pub returns-clause-pages : goal.returns-clause-pages
returns-clause-pages g c = no_pages _ c.new.ensures.items
