use Rattle.std.proofs.Common.{◌==◌, not, length, arith, ap, sym, ◌∙◌}
use Rattle.pages.proofs.TableLemmas.{seen_item, seen_page, seen_within, seen_missing, seen_length, none_there, times_le}
use Rattle.pages.proofs.page_table.Pages.has_page.Goals as goal

pub returns-clause-value : goal.returns-clause-value
returns-clause-value g c = ap (λ n. not (n == 0)) c.entry_of.ensures ∙ sym (seen_page _ g.T.Item.FILLER _ _ _ c.self.view_is _)

pub returns-clause-within : goal.returns-clause-within
returns-clause-within g c k h =
    let n = seen_length _ g.T.Item.FILLER _ _ _ c.self.view_is in
    let m = times_le k (length c.self.inside.table.items) g.row.LEN (seen_within _ g.T.Item.FILLER _ _ _ c.self.view_is k h) in
    omega (arith, n, m)

pub returns-clause-missing : goal.returns-clause-missing
returns-clause-missing g c i h = seen_item _ _ _ _ c.self.invariant.some _ c.self.view_is i ∙ none_there _ _ _ _ i (seen_missing _ g.T.Item.FILLER _ _ _ c.self.view_is _ h)
