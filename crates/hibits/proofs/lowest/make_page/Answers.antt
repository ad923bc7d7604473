use Rattle.std.proofs.Common.{◌/◌, arith, ap, ◌∙◌}
use Rattle.std.specs.FinSet as set
use Rattle.hibits.proofs.PageLemmas.{page_is, paged_grown}
use Rattle.hibits.proofs.lowest.make_page.Goals as goal

pub returns-in-Ok-clause-paged : goal.returns-in-Ok-clause-paged
returns-in-Ok-clause-paged c old =
    let e = c.in-Ok.ensures in
    paged_grown _ _ _ old (c.args.i / 4096) _ (e.pages ∙ ap (set.insert c.args.words.now.pages) (page_is c.args.i)) (record { at = e.items }) (omega (arith, e.len))
