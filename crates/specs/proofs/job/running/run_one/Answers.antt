use Rattle.std.proofs.Common.{[], refl, sym, append-nil}
use Rattle.specs.proofs.job.running.run_one.Goals as goal

pub returns-in-Ok : goal.returns-in-Ok
returns-in-Ok g c =
    let done = c.done.ensures in
    record { done = rw (done.kept, done.refused) ([], sym (append-nil _), rw c.in-Insert.is (refl, c.in-Ok.counted, c.count_of.ensures, c.in-Ok.ensures.ok)) }

pub returns-in-None : goal.returns-in-None
returns-in-None g c =
    let done = c.done-in-None.ensures in
    record { done = rw (done.kept, done.refused) ([], sym (append-nil _), rw c.in-InsertAll.is (refl, rw c.in-None.is at c.insert_all-inserted.ensures.done)) }
