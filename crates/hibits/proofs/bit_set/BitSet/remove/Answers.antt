use Rattle.std.proofs.Common.{sym, ◌∙◌}
use Rattle.hibits.proofs.MemberLemmas.{is_removed}
use Rattle.hibits.proofs.RowLemmas.{remove_absent}
use Rattle.hibits.proofs.bit_set.BitSet.remove.Goals as goal

pub returns-then-not-contains-clause-members : goal.returns-then-not-contains-clause-members
returns-then-not-contains-clause-members c = remove_absent _ _ (sym c.contains.ensures.value ∙ c.if-not-contains.true)

pub returns-clause-removed : goal.returns-clause-removed
returns-clause-removed c = is_removed _ _ c.args.id c.put.ensures.members
