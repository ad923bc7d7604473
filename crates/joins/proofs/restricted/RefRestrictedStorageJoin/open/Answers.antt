use Rattle.std.proofs.Common.{◌∙◌}
use Rattle.hibits.specs.Sets.{has_part_zero}
use Rattle.joins.proofs.restricted.RefRestrictedStorageJoin.open.Goals as goal

pub returns-clause-mask : goal.returns-clause-mask
returns-clause-mask g c i = has_part_zero c.mask-mask.result.now.members i ∙ c.mask-mask.ensures i
