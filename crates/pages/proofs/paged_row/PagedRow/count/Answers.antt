use Rattle.std.proofs.Common.{◌≡◌, ◌==◌, true, false, length, nat_cmp, rules, arith, sym, ap, ◌∙◌}
use Rattle.std.specs.FinSet as set
use Rattle.pages.proofs.CountLemmas.{first_of, one_page_more, all_pages, one_if_there, same_if_none}
use Rattle.pages.proofs.paged_row.PagedRow.count.Goals as goal
use Rattle.pages.proofs.paged_row.PagedRow.count.Goals.{then-not-is_empty, else-not-is_empty}

pub loop-page-init : goal.loop-page-init
loop-page-init g c = (sym (set.len-empty nat_cmp), omega arith)

pub loop-page-preserved : goal.loop-page-preserved
loop-page-preserved g c =
    let i = c.loop-page.invariant in
    let more = one_page_more c.args.self.now.pages c.loop-page.page in
    elim c.if-not-is_empty.branch [
      | then-not-is_empty w ↦
          let some : (length c.page.result.now == 0) ≡ false = search rules in
          let one = one_if_there g.row.LEN (set.contains c.args.self.now.pages c.loop-page.page) (length c.page.result.now) (set.len (first_of c.args.self.now.pages c.loop-page.page)) c.page.ensures.len some in
          let is = w.count-is in
          (omega (arith, is, i.0, more, one), omega (arith, is, i.1))
      | else-not-is_empty w ↦
          let none : (length c.page.result.now == 0) ≡ true = search rules in
          let same = same_if_none g.row.LEN c.requires.some (set.contains c.args.self.now.pages c.loop-page.page) (length c.page.result.now) (set.len (first_of c.args.self.now.pages c.loop-page.page)) c.page.ensures.len none in
          let is = w.count-is in
          (omega (arith, is, i.0, more, same), omega (arith, is, i.1))
    ]

pub returns : goal.returns
returns g c =
    let at : c.loop-page.page ≡ c.reach-page-end.result = omega arith in
    c.loop-page.invariant.0
    ∙ ap (λ n. set.len (first_of c.args.self.now.pages n)) at
    ∙ ap set.len (all_pages c.args.self.now.pages c.reach-page-end.result c.reach-page-end.ensures.pages)
