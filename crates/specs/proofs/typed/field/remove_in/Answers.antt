use Rattle.specs.proofs.Values.{removed}
use Rattle.specs.proofs.typed.field.remove_in.Goals as goal

pub returns-in-Ok-clause-ok : goal.returns-in-Ok-clause-ok
returns-in-Ok-clause-ok g c =
    removed c.args.entities.now c.args.storage.now c.take.new.storage c.args.e c.in-Ok.found
    c.in-Ok.ensures.found c.in-Ok.ensures.map c.in-Ok.ensures.channel c.in-Ok.ensures.inner c.in-Ok.ensures.absent
