use Rattle.specs.proofs.Lasting.{gone_step, living_step}
use Rattle.specs.proofs.world.World.apply.Goals as goal

pub returns-clause-living : goal.returns-clause-living
returns-clause-living g c = living_step g.S.Held.place g.S.CloneStorages.clones g.S.Held.marks g.J.WorldJob.does g.J.WorldJob.wants g.met.J.WorldJob.grows g.met.J.WorldJob.lives _ c.args.command c.answer.result _ c.answer.ensures

pub returns-clause-gone : goal.returns-clause-gone
returns-clause-gone g c = λ e. gone_step g.S.Held.place g.S.CloneStorages.clones g.S.Held.marks g.J.WorldJob.does g.J.WorldJob.wants g.met.J.WorldJob.grows _ c.args.command c.answer.result _ e c.answer.ensures
