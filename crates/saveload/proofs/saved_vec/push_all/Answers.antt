use Rattle.std.proofs.Common.{◌≡◌, ◌++◌, get_or, map, Err, rules}
use Rattle.serde_json.specs.View.{view}
use Rattle.saveload.specs.JsonParts.{Splits}
use Rattle.saveload.proofs.Begun.{begins_more}
use Rattle.saveload.proofs.Parts.{push_step}
use Rattle.saveload.proofs.saved_vec.push_all.Goals as goal

pub loop-datum-preserved : goal.loop-datum-preserved
loop-datum-preserved g c =
    let at : get_or c.args.list.now c.loop-datum.datum-index c.datum-item.result ≡ c.datum-item.result = search rules in
    let more : map view c.push_parts.new.row.items ≡ map view c.loop-datum.row.items ++ g.T.JsonParts.parts (get_or c.args.list.now c.loop-datum.datum-index c.datum-item.result) = rw at c.in_ok-push_parts.ensures.parts in
    let back : Splits g.T.JsonParts.parts g.T.JsonParts.split (get_or c.args.list.now c.loop-datum.datum-index c.datum-item.result) = rw at c.in_ok-push_parts.ensures.back in
    push_step g.T.JsonParts.parts g.T.JsonParts.split c.args.list.now c.loop-datum.datum-index c.datum-item.result
    (map view c.args.row.now.items) (map view c.loop-datum.row.items) (map view c.push_parts.new.row.items)
    c.loop-datum-test.true c.loop-datum.invariant.0 c.loop-datum.invariant.1 more back

pub returns-in_err-push_parts-clause-err : goal.returns-in_err-push_parts-clause-err
returns-in_err-push_parts-clause-err g c =
    let same : c.from_residual.result ≡ Err c.in_err-push_parts.field-0.0 = search rules in
    rw same (begins_more _ _ c.loop-datum.invariant.0 c.in_err-push_parts.ensures.err)
