use Rattle.std.proofs.Common.{◌/◌, arith, ap, sym, ◌∙◌}
use Rattle.std.specs.FinSet as set
use Rattle.hibits.proofs.PageLemmas.{in_grown, kept_in_grown, not_grown}
use Rattle.hibits.proofs.RowLemmas.{sound_grown, same_words, same_members, same_are_words}
use Rattle.hibits.proofs.bit_set.BitSet.make_room.Goals as goal

pub invariant_of-self-2 : goal.invariant_of-self-2
invariant_of-self-2 c =
    let i = c.self.invariant.rows in
    let l0 = i.size0 in
    let l1 = i.size1 in
    let l2 = i.size2 in
    let l3 = i.size3 in
    let n3 = c.in_ok-grow.ensures.len in
    let n2 = c.in_ok-grow-2.ensures.len in
    let n1 = c.in_ok-grow-3.ensures.len in
    let n0 = c.in_ok-make_page.ensures.len in
    record {
      rows = sound_grown _ _ _ _ _ _ _ _ _ _ i c.make_page.ensures.same c.grow-3.ensures.same c.grow-2.ensures.same c.grow.ensures.same (same_words _) (omega (arith, n0, n1)) (omega (arith, n1, n2)) (omega (arith, n2, n3)) (omega (arith, n3)) i.size4 (same_are_words _ _ c.make_page.ensures.same i.words0) c.grow-3.ensures.words c.grow-2.ensures.words c.grow.ensures.words i.words4;
      paged = c.make_page.ensures.paged c.self.invariant.paged;
    }

pub returns-clause-members : goal.returns-clause-members
returns-clause-members c = same_members _ _ c.make_page.ensures.same ∙ ap (λ s. s.members) c.self.view_is

pub returns-clause-ok : goal.returns-clause-ok
returns-clause-ok c = in_grown _ _ _ c.in_ok-make_page.ensures.pages

pub returns-clause-room : goal.returns-clause-room
returns-clause-room c i h = kept_in_grown _ _ _ c.in_ok-make_page.ensures.pages (i / 4096) (ap (λ s. set.contains s.room (i / 4096)) c.self.view_is ∙ h)

pub returns-clause-no_further : goal.returns-clause-no_further
returns-clause-no_further c i past h =
    sym (ap (λ s. set.contains s.room (i / 4096)) c.self.view_is) ∙ not_grown _ _ _ c.in_ok-make_page.ensures.pages (i / 4096) (λ e. omega (arith, e, past)) h
