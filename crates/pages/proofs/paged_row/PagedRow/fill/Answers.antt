use Rattle.std.proofs.Common.{◌≡◌, length, max, replicate, arith, ap, ◌∙◌}
use Rattle.std.proofs.lemmas.List.{take_at}
use Rattle.pages.specs.Joined.{joined}
use Rattle.pages.proofs.RowLemmas.{joined_filled, one_length}
use Rattle.pages.proofs.paged_row.PagedRow.fill.Goals as goal

pub returns-clause-items : goal.returns-clause-items
returns-clause-items g c =
    let n = one_length _ g.T.Item.FILLER _ _ c.self.invariant _ c.self.view_is in
    let v = ap length c.deref_mut.ensures.value in
    let size : max (length c.deref_mut.result.now) (length c.self.inside.behind.items) ≡ length c.args.self.now.items = omega (arith, n, v) in
    ap (λ xs. joined xs c.fill.new.self.items) (take_at _ _ _ (omega arith) ∙ c.fill_with.ensures ∙ ap (λ x. replicate (length c.deref_mut.result.now) x) c.FILLER.ensures)
    ∙ ap (joined (replicate (length c.deref_mut.result.now) g.T.Item.FILLER)) c.fill.ensures.items
    ∙ joined_filled g.T.Item.FILLER (length c.deref_mut.result.now) (length c.self.inside.behind.items)
    ∙ ap (λ n. replicate n g.T.Item.FILLER) size
