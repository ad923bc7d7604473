use Rattle.hibits.proofs.FirstLemmas.{first_is_member}
use Rattle.hibits.proofs.bit_set.BitSet.first_from.Goals as goal

pub returns-clause-first : goal.returns-clause-first
returns-clause-first c = first_is_member c.args.self.now.members c.args.id c.first_at.result c.first_at.ensures.first
