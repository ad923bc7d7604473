use Rattle.std.proofs.Common.{length, replicate, arith, ap, sym, ◌∙◌}
use Rattle.std.proofs.lemmas.List.{take_at}
use Rattle.pages.specs.Table.{flat}
use Rattle.pages.proofs.TableLemmas.{flat_filled, seen_length}
use Rattle.pages.proofs.page_table.Pages.fill.Goals as goal

pub returns-clause-items : goal.returns-clause-items
returns-clause-items g c =
    ap (λ xs. flat g.row.LEN g.T.Item.FILLER c.self.inside.table.items xs) (take_at _ _ _ (omega arith) ∙ c.fill_with.ensures ∙ ap (λ x. replicate (length c.deref_mut.result.now) x) c.FILLER.ensures)
    ∙ flat_filled _ _ c.self.invariant.some _ _
    ∙ ap (λ n. replicate n g.T.Item.FILLER) (sym (seen_length _ g.T.Item.FILLER _ _ _ c.self.view_is))
