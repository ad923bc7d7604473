use Rattle.std.proofs.Common.{◌≡◌, rules}
use Rattle.std.specs.Prelude.{Err}
use Rattle.joins.proofs.change_set.ChangeSet.from_list.Goals as goal

pub returns-in_err-extend-clause-err : goal.returns-in_err-extend-clause-err
returns-in_err-extend-clause-err g c =
    let same : c.from_residual.result ≡ Err c.in_err-extend.field-0.0 = search rules in
    rw same (c.extend.new.self, rw c.new-changes.ensures at c.in_err-extend.ensures.err)
