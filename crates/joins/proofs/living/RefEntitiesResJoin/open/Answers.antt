use Rattle.std.proofs.Common.{◌∙◌}
use Rattle.hibits.specs.Sets.{has_part_zero}
use Rattle.joins.proofs.living.RefEntitiesResJoin.open.Goals as goal

pub returns-clause-mask : goal.returns-clause-mask
returns-clause-mask c i = rw (has_part_zero c.living-living.result.0.now.members i ∙ c.living-living.ensures.merged i, has_part_zero c.living-living.result.1.now.members i ∙ c.living-living.ensures.pending i)
