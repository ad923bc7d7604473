use Rattle.specs.specs.Slots.Clones.{no_clones}
use Rattle.specs.proofs.Lasting.{gone_jobs, living_jobs}
use Rattle.specs.proofs.world.World.maintain.Goals as goal

pub returns-clause-gone : goal.returns-clause-gone
returns-clause-gone g c = λ k d lt.
    gone_jobs g.S.Held.place no_clones g.S.Held.marks g.J.WorldJob.does g.J.WorldJob.wants g.met.J.WorldJob.grows _ _ _ _ _ _ _ _ _ c.run_jobs-ending.ensures (c.in_ok-deleted.ensures.gone k d lt)

pub returns-clause-living : goal.returns-clause-living
returns-clause-living g c = λ w.
    living_jobs g.S.Held.place no_clones g.S.Held.marks g.J.WorldJob.does g.J.WorldJob.wants g.met.J.WorldJob.grows g.met.J.WorldJob.lives _ _ _ _ _ _ _ _ c.run_jobs-ending.ensures (c.in_ok-deleted.ensures.living w)

pub returns-clause-stays_gone : goal.returns-clause-stays_gone
returns-clause-stays_gone g c = λ e was.
    gone_jobs g.S.Held.place no_clones g.S.Held.marks g.J.WorldJob.does g.J.WorldJob.wants g.met.J.WorldJob.grows e _ _ _ _ _ _ _ _ c.run_jobs-ending.ensures (c.in_ok-deleted.ensures.stays_gone e was)
