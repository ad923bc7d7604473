use Rattle.std.proofs.Common.{arith, sym, ◌∙◌}
use Rattle.std.proofs.lemmas.List.{ext_get_or, get_or-replicate, length-replicate}
use Rattle.pages.proofs.page_table.fill_with.Goals as goal

pub returns : goal.returns
returns g c =
    ext_get_or c.args.item _ _ (c.loop-place.auto.place-items ∙ sym (length-replicate _ _)) (λ k lt.
    c.loop-place.invariant k (omega arith) ∙ sym (get_or-replicate _ k c.args.item c.args.item (omega arith)))
