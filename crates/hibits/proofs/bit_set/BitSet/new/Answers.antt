use Rattle.std.proofs.Common.{ap, ◌∙◌, refl}
use Rattle.hibits.proofs.MemberLemmas.{has_none}
use Rattle.hibits.proofs.PageLemmas.{kept_empty}
use Rattle.hibits.proofs.RowLemmas.{zero_members}
use Rattle.hibits.specs.Rows.{members_of}
use Rattle.hibits.proofs.bit_set.BitSet.new.Goals as goal

pub invariant_of-result : goal.invariant_of-result
invariant_of-result c = rw (c.new.ensures.items, c.new.ensures.pages, c.new-2.ensures.items, c.new-3.ensures.items, c.new-4.ensures.items) kept_empty

pub returns-clause-members : goal.returns-clause-members
returns-clause-members c = ap members_of c.new.ensures.items ∙ zero_members _ (λ k. refl)

pub returns-clause-none : goal.returns-clause-none
returns-clause-none c = has_none _ (ap members_of c.new.ensures.items ∙ zero_members _ (λ k. refl))
