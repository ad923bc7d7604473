use Rattle.joins.proofs.cursors.each.WriteStorageForEach.update_each_with.Goals as goal

pub returns-clause-each : goal.returns-clause-each
returns-clause-each g c = rw c.masked_mut.ensures.slot at c.update_each_with.ensures.each

pub returns-clause-becomes : goal.returns-clause-becomes
returns-clause-becomes g c = rw c.masked_mut.ensures.slot at c.update_each_with.ensures.becomes

pub returns-clause-err : goal.returns-clause-err
returns-clause-err g c = rw c.masked_mut.ensures.slot at c.update_each_with.ensures.err

pub returns-clause-succeeds : goal.returns-clause-succeeds
returns-clause-succeeds g c = rw c.masked_mut.ensures.slot at c.update_each_with.ensures.succeeds
