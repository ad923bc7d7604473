use Rattle.joins.proofs.cursors.each.WriteStorageForEach.try_for_each_with.Goals as goal

pub returns-clause-each : goal.returns-clause-each
returns-clause-each g c = rw c.masked_mut.ensures.slot at c.try_for_each_with.ensures.each

pub returns-clause-calls : goal.returns-clause-calls
returns-clause-calls g c = rw c.masked_mut.ensures.slot at c.try_for_each_with.ensures.calls

pub returns-clause-memory : goal.returns-clause-memory
returns-clause-memory g c = rw c.masked_mut.ensures.slot at c.try_for_each_with.ensures.memory

pub returns-clause-refused : goal.returns-clause-refused
returns-clause-refused g c = rw c.masked_mut.ensures.slot at c.try_for_each_with.ensures.refused

pub returns-clause-succeeds : goal.returns-clause-succeeds
returns-clause-succeeds g c = rw c.masked_mut.ensures.slot at c.try_for_each_with.ensures.succeeds

pub returns-clause-becomes : goal.returns-clause-becomes
returns-clause-becomes g c = rw c.masked_mut.ensures.slot at c.try_for_each_with.ensures.becomes
