use Rattle.std.proofs.Common.{[], refl, sym, append-nil}
use Rattle.script_slots.proofs.script_job.ScriptJobWorldJob.update.Goals as goal

pub returns-in-Ok-clause-ok : goal.returns-in-Ok-clause-ok
returns-in-Ok-clause-ok g c = ([], sym (append-nil _), rw c.in-Create.is (refl, c.in-Ok.ensures.ok))
