use Rattle.std.proofs.Common.{◌≡◌, Err, subst, rules}
use Rattle.saveload.specs.JsonParts.{AllSplit}
use Rattle.saveload.proofs.Begun.{begins_more}
use Rattle.saveload.proofs.Parts.{list_back}
use Rattle.saveload.proofs.saved_vec.SavedVecJsonParts.push_parts.Goals as goal

pub returns-clause-back : goal.returns-clause-back
returns-clause-back g c =
    let e : c.as_slice.result.now ≡ c.args.self.now = search rules in
    list_back g.T.JsonParts.parts g.T.JsonParts.split c.args.self.now (subst (AllSplit g.T.JsonParts.parts g.T.JsonParts.split) e c.in_ok-push_all.ensures.back)

pub returns-in_err-push_all-clause-err : goal.returns-in_err-push_all-clause-err
returns-in_err-push_all-clause-err g c =
    let same : c.from_residual-in_err-push_all.result ≡ Err c.in_err-push_all.field-0.0 = search rules in
    rw same (begins_more _ _ c.in_ok-push_one.ensures.parts c.in_err-push_all.ensures.err)
