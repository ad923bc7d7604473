use Rattle.std.proofs.Common.{sym, ap, ◌∙◌, ◌≡◌, ℕ, arith}
use Rattle.std.specs.FinSet as set
use Rattle.hibits.specs.Rows.{row_bit}
use Rattle.hibits.proofs.RowLemmas.{contains-members_of}
use Rattle.hibits.proofs.bit_set.BitSet.contains_set.Goals as goal

pub covers_lowest-requires : goal.covers_lowest-requires
covers_lowest-requires c = let i = c.other.invariant.rows in omega (arith, i.size0, i.size1, i.size2, i.size3, i.size4)

pub returns : goal.returns
returns c =
    let own : (i : ℕ) → row_bit c.self.inside.layer0.items i ≡ set.contains c.args.self.now.members i =
    λ i. sym (contains-members_of c.self.inside.layer0.items i) ∙ ap (λ s. set.contains s.members i) c.self.view_is in
    let other : (i : ℕ) → row_bit c.other.inside.layer0.items i ≡ set.contains c.args.other.now.members i =
    λ i. sym (contains-members_of c.other.inside.layer0.items i) ∙ ap (λ s. set.contains s.members i) c.other.view_is in
    (λ yes i e. sym (own i) ∙ c.covers_lowest.ensures.0 yes i (other i ∙ e), λ all. c.covers_lowest.ensures.1 (λ i e. own i ∙ all i (sym (other i) ∙ e)))
