use Rattle.std.proofs.Common.{◌≡◌, ◌/◌, length, arith, ap}
use Rattle.pages.proofs.RowLemmas.{reach_length, reach_pages}
use Rattle.pages.proofs.paged_row.PagedRow.reach.Goals as goal

pub returns-then-row-behind-clause-len : goal.returns-then-row-behind-clause-len
returns-then-row-behind-clause-len g c =
    let n : c.len.result ≡ length c.self.inside.row.items = omega arith in
    let p = ap (λ m. m / g.row.LEN) n in
    reach_length _ g.T.Item.FILLER _ _ c.self.invariant _ c.self.view_is c.reach-behind.result _ c.reach-behind.ensures.len (omega (arith, p))

pub returns-then-row-behind-clause-pages : goal.returns-then-row-behind-clause-pages
returns-then-row-behind-clause-pages g c =
    let n : c.len.result ≡ length c.self.inside.row.items = omega arith in
    let p = ap (λ m. m / g.row.LEN) n in
    reach_pages _ g.T.Item.FILLER _ _ c.self.invariant _ c.self.view_is c.reach-behind.result _ c.reach-behind.ensures.pages (omega (arith, p))

pub returns-else-row-behind-clause-len : goal.returns-else-row-behind-clause-len
returns-else-row-behind-clause-len g c =
    let n : c.len.result ≡ length c.self.inside.row.items = omega arith in
    let p = ap (λ m. m / g.row.LEN) n in
    reach_length _ g.T.Item.FILLER _ _ c.self.invariant _ c.self.view_is c.reach-behind.result _ c.reach-behind.ensures.len (omega (arith, p))

pub returns-else-row-behind-clause-pages : goal.returns-else-row-behind-clause-pages
returns-else-row-behind-clause-pages g c =
    let n : c.len.result ≡ length c.self.inside.row.items = omega arith in
    let p = ap (λ m. m / g.row.LEN) n in
    reach_pages _ g.T.Item.FILLER _ _ c.self.invariant _ c.self.view_is c.reach-behind.result _ c.reach-behind.ensures.pages (omega (arith, p))
