use Rattle.specs.proofs.Gone.{gone_deleted}
use Rattle.specs.proofs.world.core_parts.Core.delete_all_of.Goals as goal

pub returns-in-Ok-clause-gone : goal.returns-in-Ok-clause-gone
returns-in-Ok-clause-gone g c = gone_deleted _ _ c.args.list.now (record { may = c.in-Ok.ensures.may; dead = c.in-Ok.ensures.dead })
