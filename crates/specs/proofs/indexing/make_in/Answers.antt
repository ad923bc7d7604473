use Rattle.storages.specs.Tracking.{with_reader}
use Rattle.specs.proofs.Covering.{turns_in, same_in}
use Rattle.specs.proofs.indexing.make_in.Goals as goal

pub returns-in-Ok-clause-turns : goal.returns-in-Ok-clause-turns
returns-in-Ok-clause-turns g c = turns_in g.S.Field.part g.S.Field.with_part g.S.Held.table g.S.Has.the_slot g.S.Has.as_value g.met.S.Has.sees g.met.S.Has.only g.met.S.Field.puts c.args.storages.now c.in-Some.masked.now c.make_on.new.masked with_reader c.in-Some.ensures.value c.in-Ok.ensures.turns

pub returns-in-Err-clause-err : goal.returns-in-Err-clause-err
returns-in-Err-clause-err g c = same_in g.S.Field.part g.S.Field.with_part g.S.Held.table g.S.Has.the_slot g.S.Has.as_value g.met.S.Has.sees g.met.S.Has.only g.met.S.Field.puts c.args.storages.now c.in-Some.masked.now c.make_on.new.masked c.in-Some.ensures.value c.in-Err.ensures.err
