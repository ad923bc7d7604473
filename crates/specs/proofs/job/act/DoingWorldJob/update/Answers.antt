use Rattle.specs.proofs.Going.{lengthened, reached}
use Rattle.specs.proofs.job.act.DoingWorldJob.update.Goals as goal

pub returns-in-Ok-clause-ok : goal.returns-in-Ok-clause-ok
returns-in-Ok-clause-ok g c = lengthened _ _ c.in-Ok.ensures.lengthens (reached _ _ c.in-Ok.ensures.goes_on, c.in-Ok.ensures.acts)
