use Rattle.std.proofs.Common.{arith, ◌∙◌, ap, sym, length}
use Rattle.std.specs.FinSet as set
use Rattle.hibits.specs.Left.{left}
use Rattle.hibits.proofs.CountLemmas.{len-members_of, left-length}
use Rattle.hibits.proofs.bit_set.BitSet.count.Goals as goal

pub ones_of_lowest-requires : goal.ones_of_lowest-requires
ones_of_lowest-requires c = let i = c.self.invariant.rows in omega (arith, i.size0, i.size1, i.size2, i.size3, i.size4)

pub returns-clause-members : goal.returns-clause-members
returns-clause-members c =
    c.ones_of_lowest.ensures ∙ sym (len-members_of c.self.inside.layer0.items) ∙ ap (λ s. set.len s.members) c.self.view_is

pub returns-clause-walk : goal.returns-clause-walk
returns-clause-walk c =
    let i = c.self.invariant.rows in
    c.ones_of_lowest.ensures ∙ sym (left-length c.self.inside.layer0.items (omega (arith, i.size0, i.size1, i.size2, i.size3, i.size4)))
    ∙ ap (λ s. length (left (λ k. set.contains s.members k) 0)) c.self.view_is
