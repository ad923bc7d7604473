use Rattle.specs.proofs.Gone.{gone_deleted_one}
use Rattle.specs.proofs.world.core_parts.Core.delete_entity.Goals as goal

pub returns-clause-gone : goal.returns-clause-gone
returns-clause-gone g c = let deletes = c.in_ok-delete_entities.ensures.ok in gone_deleted_one _ _ c.args.e deletes.people
