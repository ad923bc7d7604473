use Rattle.std.proofs.Common.{◌≡◌, ◌+◌, ◌/◌, length, arith, refl}
use Rattle.std.specs.Vec.{vec_len}
use Rattle.pages.proofs.TableLemmas.{resized}
use Rattle.pages.proofs.RowLemmas.{IsOneMore, more_in_row, more_behind}
use Rattle.pages.proofs.paged_row.PagedRow.make_page.Given.{Over}
use Rattle.pages.proofs.paged_row.PagedRow.make_page.Goals as goal

longer_row : (g : Over) (c : goal.In_ok-resize g) → IsOneMore g.row.LEN g.T.Item.FILLER c.resize.new.self.items c.self.inside.behind c.args.self.now (c.args.at / g.row.LEN)
longer_row g c =
    let n : c.len-len.result ≡ length c.self.inside.row.items = omega arith in
    let m : vec_len c.self.inside.row ≡ length c.self.inside.row.items = omega arith in
    more_in_row _ g.T.Item.FILLER _ _ c.self.invariant _ c.self.view_is (c.args.at / g.row.LEN) c.requires c.resize.new.self.items (omega (arith, n)) (resized g.row.LEN (c.len-len.result + g.row.LEN) (vec_len c.self.inside.row) _ _ _ _ g.T.Item.FILLER c.in_ok-resize.ensures.items refl m (omega (arith, n)) c.FILLER.ensures)

further_page : (g : Over) (c : goal.In_ok-reserve g) → IsOneMore g.row.LEN g.T.Item.FILLER c.self.inside.row.items c.reserve.new.self c.args.self.now (c.args.at / g.row.LEN)
further_page g c = more_behind _ g.T.Item.FILLER _ _ c.self.invariant _ c.self.view_is (c.args.at / g.row.LEN) c.requires _ c.reserve.ensures.items c.in_ok-reserve.ensures.pages c.in_ok-reserve.ensures.len

pub invariant_of-self-then-at-len : goal.invariant_of-self-then-at-len
invariant_of-self-then-at-len g c = (longer_row g c).sound

pub returns-then-at-len-clause-items : goal.returns-then-at-len-clause-items
returns-then-at-len-clause-items g c = (longer_row g c).item

pub returns-then-at-len-clause-pages : goal.returns-then-at-len-clause-pages
returns-then-at-len-clause-pages g c = (longer_row g c).pages

pub returns-then-at-len-clause-len : goal.returns-then-at-len-clause-len
returns-then-at-len-clause-len g c = (longer_row g c).size

pub invariant_of-self-2 : goal.invariant_of-self-2
invariant_of-self-2 g c = (further_page g c).sound

pub returns-clause-items : goal.returns-clause-items
returns-clause-items g c = (further_page g c).item

pub returns-clause-pages : goal.returns-clause-pages
returns-clause-pages g c = (further_page g c).pages

pub returns-clause-len : goal.returns-clause-len
returns-clause-len g c = (further_page g c).size
