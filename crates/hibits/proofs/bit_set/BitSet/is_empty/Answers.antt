use Rattle.std.proofs.Common.{sym, ap, ◌∙◌, eqb-true, eq-eqb}
use Rattle.hibits.proofs.FirstLemmas.{top_zero_empty, empty_top_zero}
use Rattle.hibits.proofs.bit_set.BitSet.is_empty.Goals as goal

pub returns : goal.returns
returns c =
    let is = ap (λ s. s.members) c.self.view_is in
    (λ e. sym is ∙ top_zero_empty _ _ _ _ _ c.self.invariant.rows (eqb-true _ 0 e), λ e. let z = empty_top_zero _ _ _ _ _ c.self.invariant.rows (is ∙ e) in eq-eqb _ 0 z)
