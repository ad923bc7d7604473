use Rattle.std.proofs.Common.{◌≡◌, ◌*◌, length, arith, ap, sym, ◌∙◌}
use Rattle.pages.proofs.TableLemmas.{seen_within, seen_length}
use Rattle.pages.proofs.page_table.Pages.reach.Goals as goal

pub returns-clause-len : goal.returns-clause-len
returns-clause-len g c =
    let e : c.len.result ≡ length c.self.inside.table.items = omega arith in
    ap (λ n. n * g.row.LEN) e ∙ sym (seen_length _ g.T.Item.FILLER _ _ _ c.self.view_is)

pub returns-clause-pages : goal.returns-clause-pages
returns-clause-pages g c k h =
    let w = seen_within _ g.T.Item.FILLER _ _ _ c.self.view_is k h in
    omega (arith, w)
