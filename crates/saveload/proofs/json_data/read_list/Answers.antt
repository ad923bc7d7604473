use Rattle.std.proofs.Common.{◌≡◌, get_or, rules, sym, ◌∙◌, Some, None}
use Rattle.serde_json.specs.View.{view}
use Rattle.saveload.specs.Json.{list_from, record_from}
use Rattle.saveload.proofs.JsonLists.{read_step, read_none, read_all}
use Rattle.saveload.proofs.json_data.read_list.Goals as goal

pub loop-value-preserved : goal.loop-value-preserved
loop-value-preserved g c =
    let at : get_or c.deref-value-items.result.now c.loop-value.value-index c.value-item.result ≡ c.value-item.result = search rules in
    let read : Some c.in-Some-2.record ≡ record_from g.M.JsonData.from g.D.JsonPlaces.from (view (get_or c.deref-value-items.result.now c.loop-value.value-index c.value-item.result)) = rw at (sym c.in-Some-2.is ∙ c.in_ok-record.ensures) in
    rw c.in_ok-push-in-Some-2.ensures.items (read_step g.M.JsonData.from g.D.JsonPlaces.from c.deref-value-items.result.now c.loop-value.value-index c.value-item.result
    c.loop-value.list.items c.in-Some-2.record (list_from g.M.JsonData.from g.D.JsonPlaces.from (view c.args.value.now)) c.loop-value-test.true c.loop-value.invariant read)

pub returns : goal.returns
returns g c =
    sym (read_all g.M.JsonData.from g.D.JsonPlaces.from c.deref-value-items.result.now c.loop-value.value-index c.loop-value.list.items
    (list_from g.M.JsonData.from g.D.JsonPlaces.from (view c.args.value.now)) c.loop-value-test.false c.loop-value.invariant)

pub returns-in-None : goal.returns-in-None
returns-in-None g c =
    let at : get_or c.deref-value-items.result.now c.loop-value.value-index c.value-item.result ≡ c.value-item.result = search rules in
    let read : None ≡ record_from g.M.JsonData.from g.D.JsonPlaces.from (view (get_or c.deref-value-items.result.now c.loop-value.value-index c.value-item.result)) = rw at (sym c.in-None.is ∙ c.in_ok-record.ensures) in
    sym (read_none g.M.JsonData.from g.D.JsonPlaces.from c.deref-value-items.result.now c.loop-value.value-index c.value-item.result
    c.loop-value.list.items (list_from g.M.JsonData.from g.D.JsonPlaces.from (view c.args.value.now)) c.loop-value-test.true c.loop-value.invariant read)
