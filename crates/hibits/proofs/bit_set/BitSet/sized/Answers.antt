use Rattle.std.proofs.Common.{arith, ◌∙◌, ap, sym, length}
use Rattle.std.specs.FinSet as set
use Rattle.hibits.specs.Left.{left}
use Rattle.hibits.proofs.CountLemmas.{len-members_of, left-length}
use Rattle.hibits.proofs.bit_set.BitSet.sized.Goals as goal

pub returns : goal.returns
returns c =
    let i = c.self.invariant.rows in
    ap (λ s. set.len s.members) (sym c.self.view_is)
    ∙ len-members_of c.self.inside.layer0.items
    ∙ sym (left-length c.self.inside.layer0.items (omega (arith, i.size0, i.size1, i.size2, i.size3, i.size4)))
    ∙ ap (λ s. length (left (λ k. set.contains s.members k) 0)) c.self.view_is
