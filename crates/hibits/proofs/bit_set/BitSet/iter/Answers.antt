use Rattle.hibits.specs.Sets.{has_part_zero}
use Rattle.hibits.proofs.MemberLemmas.{same_list}
use Rattle.hibits.proofs.bit_set.BitSet.iter.Goals as goal

pub returns-clause-has : goal.returns-clause-has
returns-clause-has c = has_part_zero c.args.self.now.members

pub returns-clause-list : goal.returns-clause-list
returns-clause-list c = same_list c.args.self.now.members
