use Rattle.std.proofs.Common.{ap, nat_lt, not, ◌&&◌}
use Rattle.hibits.specs.Sets.{has_part_zero}
use Rattle.hibits.specs.declared.limits.TheConstants.{INDEX_LIMIT}
use Rattle.joins.proofs.living.AntiStorageJoin.open.Goals as goal

pub returns-clause-mask : goal.returns-clause-mask
returns-clause-mask c i = ap (λ b. nat_lt i INDEX_LIMIT && not b) (has_part_zero c.args.self.0.now.members i)
