use Rattle.hibits.specs.Sets.{has_part_zero}
use Rattle.joins.proofs.sets.BitSetJoin.open.Goals as goal

pub returns-clause-mask : goal.returns-clause-mask
returns-clause-mask c i = has_part_zero c.args.self.members i
