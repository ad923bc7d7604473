use Rattle.specs.proofs.Values.{first_fresh}
use Rattle.specs.proofs.typed.field.empty.Goals as goal

pub returns-in-Ok-clause-fresh : goal.returns-in-Ok-clause-fresh
returns-in-Ok-clause-fresh g c =
    first_fresh c.new.result (g.T.Storage.Kind.meaning c.in-Ok.storage) c.new.ensures.map c.new.ensures.channel c.new.ensures.inner_room (g.met.T.Storage.UnprotectedStorage.default_is_new c.in-Ok.storage c.in-Ok.ensures.ok)
