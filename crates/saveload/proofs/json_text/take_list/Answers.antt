use Rattle.std.proofs.Common.{◌∷◌, []}
use Rattle.saveload.proofs.Kept.{took, same_text, take_step, take_end}
use Rattle.saveload.proofs.json_text.take_list.Goals as goal

pub loop-rest-preserved : goal.loop-rest-preserved
loop-rest-preserved g c =
    take_step g.M.JsonData.json g.M.JsonData.from g.D.JsonPlaces.places g.D.JsonPlaces.from c.loop-rest.list.items c.push.new.self.items c.in-Some-2.record
    c.args.text.now c.loop-rest.rest.now c.in-Some-after.next.now c.in-Some-2.behind.now c.loop-rest.separator.now
    c.loop-rest.invariant.0 c.loop-rest.invariant.2 c.loop-rest.invariant.1 c.in-Some-after.ensures
    (took _ c.in_ok-record.field-0 (c.in-Some-2.record, c.in-Some-2.behind) c.in_ok-record.ensures c.in-Some-2.is) c.in_ok-push.ensures.items

pub returns : goal.returns
returns g c =
    take_end g.M.JsonData.json g.M.JsonData.from g.D.JsonPlaces.places g.D.JsonPlaces.from c.loop-rest.list.items c.args.text.now c.loop-rest.rest.now
    c.loop-rest.invariant.0 c.loop-rest.invariant.2 (same_text c.loop-rest.rest.now (93 ∷ []) c.as_bytes.result.now c.as_bytes.ensures.value c.loop-rest-test.ensures)
