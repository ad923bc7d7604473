use Rattle.storages.specs.Tracking.{after_read}
use Rattle.specs.proofs.Covering.{followed_in, turns_in}
use Rattle.specs.proofs.indexing.refresh_in.Goals as goal

pub returns-in-Ok-clause-turns : goal.returns-in-Ok-clause-turns
returns-in-Ok-clause-turns g c = turns_in g.S.Field.part g.S.Field.with_part g.S.Held.table g.S.Has.the_slot g.S.Has.as_value g.met.S.Has.sees g.met.S.Has.only g.met.S.Field.puts c.args.storages.now c.in-Some.masked.now c.refresh_on.new.masked (after_read c.args.index.now.reader) c.in-Some.ensures.value c.refresh_on.ensures.turns

pub returns-in-Ok-clause-followed : goal.returns-in-Ok-clause-followed
returns-in-Ok-clause-followed g c = followed_in g.S.Field.part g.S.Field.with_part g.S.Held.table g.S.Has.the_slot g.S.Has.as_value g.met.S.Has.sees g.met.S.Has.only g.met.S.Field.puts c.args.storages.now c.in-Some.masked.now c.refresh_on.new.masked c.args.index.now.reader c.in-Some.ensures.value c.refresh_on.ensures.turns

pub returns-in-Err-UnknownReader-clause-turns : goal.returns-in-Err-UnknownReader-clause-turns
returns-in-Err-UnknownReader-clause-turns g c = turns_in g.S.Field.part g.S.Field.with_part g.S.Held.table g.S.Has.the_slot g.S.Has.as_value g.met.S.Has.sees g.met.S.Has.only g.met.S.Field.puts c.args.storages.now c.in-Some.masked.now c.refresh_on.new.masked (after_read c.args.index.now.reader) c.in-Some.ensures.value c.refresh_on.ensures.turns

pub returns-in-Err-UnknownReader-clause-followed : goal.returns-in-Err-UnknownReader-clause-followed
returns-in-Err-UnknownReader-clause-followed g c = followed_in g.S.Field.part g.S.Field.with_part g.S.Held.table g.S.Has.the_slot g.S.Has.as_value g.met.S.Has.sees g.met.S.Has.only g.met.S.Field.puts c.args.storages.now c.in-Some.masked.now c.refresh_on.new.masked c.args.index.now.reader c.in-Some.ensures.value c.refresh_on.ensures.turns

pub returns-in-Err-OutOfMemory-clause-turns : goal.returns-in-Err-OutOfMemory-clause-turns
returns-in-Err-OutOfMemory-clause-turns g c = turns_in g.S.Field.part g.S.Field.with_part g.S.Held.table g.S.Has.the_slot g.S.Has.as_value g.met.S.Has.sees g.met.S.Has.only g.met.S.Field.puts c.args.storages.now c.in-Some.masked.now c.refresh_on.new.masked (after_read c.args.index.now.reader) c.in-Some.ensures.value c.refresh_on.ensures.turns

pub returns-in-Err-OutOfMemory-clause-followed : goal.returns-in-Err-OutOfMemory-clause-followed
returns-in-Err-OutOfMemory-clause-followed g c = followed_in g.S.Field.part g.S.Field.with_part g.S.Held.table g.S.Has.the_slot g.S.Has.as_value g.met.S.Has.sees g.met.S.Has.only g.met.S.Field.puts c.args.storages.now c.in-Some.masked.now c.refresh_on.new.masked c.args.index.now.reader c.in-Some.ensures.value c.refresh_on.ensures.turns
