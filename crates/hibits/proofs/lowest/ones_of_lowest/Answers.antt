use Rattle.std.proofs.Common.{◌≡◌, ◌+◌, ◌*◌, arith}
use Rattle.hibits.specs.Counts.{count_below, count_within}
use Rattle.hibits.specs.Rows.{row_bit}
use Rattle.hibits.proofs.PageLemmas.{page_ones, page_len}
use Rattle.hibits.proofs.lowest.ones_of_lowest.Goals as goal

more : (c : goal.After-ones_of-ones) → c.loop-page.ones + c.ones_of-ones.result ≡ count_below (row_bit c.args.words.now.items) (4096 * (c.loop-page.page + 1))
more c =
    let p = page_ones c.args.words.now.items c.page.result.now c.loop-page.page c.page.ensures.items (page_len _ _ c.page.ensures.len) in
    omega (arith, p, c.loop-page.invariant, c.ones_of-ones.ensures)

pub overflow_add-ones : goal.overflow_add-ones
overflow_add-ones c =
    let n = more c in
    let few = count_within (row_bit c.args.words.now.items) (4096 * (c.loop-page.page + 1)) in
    omega (arith, c.requires, c.loop-page-test.true, c.reach-page-end.ensures.len)

pub loop-page-preserved : goal.loop-page-preserved
loop-page-preserved c = more c
