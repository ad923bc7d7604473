use Rattle.specs.proofs.Values.{inserted}
use Rattle.specs.proofs.typed.field.insert_in.Goals as goal

pub returns-in-Ok-clause-ok : goal.returns-in-Ok-clause-ok
returns-in-Ok-clause-ok g c =
    inserted c.args.entities.now c.args.storage.now c.put.new.storage c.args.e c.args.value c.in-Ok.before
    c.in-Ok.ensures.alive c.in-Ok.ensures.before c.in-Ok.ensures.map c.in-Ok.ensures.channel c.in-Ok.ensures.inner
