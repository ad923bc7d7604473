use Rattle.std.proofs.Common.{ap, ◌∙◌, arith}
use Rattle.hibits.proofs.MemberLemmas.{has_none}
use Rattle.hibits.proofs.PageLemmas.{paged_zeros, zeros, zeros_len}
use Rattle.hibits.proofs.RowLemmas.{sound_zeros, zero_members}
use Rattle.hibits.proofs.bit_set.BitSet.clear.Goals as goal

pub invariant_of-self : goal.invariant_of-self
invariant_of-self c =
    let i = c.self.invariant.rows in
    let n = zeros_len _ _ c.fill.ensures.items in
    record {
      rows = sound_zeros _ _ _ _ (omega (arith, n, c.wipe.ensures.len, i.size0)) (omega (arith, c.wipe.ensures.len, c.wipe-2.ensures.len, i.size1)) (omega (arith, c.wipe-2.ensures.len, c.wipe-3.ensures.len, i.size2)) (omega (arith, c.wipe-3.ensures.len, i.size3, i.size4)) (zeros _ _ c.fill.ensures.items) c.wipe.ensures.zero c.wipe-2.ensures.zero c.wipe-3.ensures.zero;
      paged = rw c.fill.ensures.pages (paged_zeros _ _ _ c.self.invariant.paged n (zeros _ _ c.fill.ensures.items));
    }

pub returns-clause-members : goal.returns-clause-members
returns-clause-members c = zero_members _ (zeros _ _ c.fill.ensures.items)

pub returns-clause-room : goal.returns-clause-room
returns-clause-room c = c.fill.ensures.pages ∙ ap (λ s. s.room) c.self.view_is

pub returns-clause-none : goal.returns-clause-none
returns-clause-none c = has_none _ (zero_members _ (zeros _ _ c.fill.ensures.items))
