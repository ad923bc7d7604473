use Rattle.std.proofs.Common.{◌≡◌, get_or, string_bytes, rules}
use Rattle.saveload.specs.Json.{record_json, record_from, Writes}
use Rattle.saveload.proofs.Kept.{write_step, write_end}
use Rattle.saveload.proofs.json_text.write_list.Goals as goal

pub loop-record-preserved : goal.loop-record-preserved
loop-record-preserved g c =
    let at : get_or c.args.list.now c.loop-record.record-index c.record-item.result ≡ c.record-item.result = search rules in
    let w : Writes (record_json g.M.JsonData.json g.D.JsonPlaces.places) (record_from g.M.JsonData.from g.D.JsonPlaces.from) (get_or c.args.list.now c.loop-record.record-index c.record-item.result) (string_bytes c.push_str-in-loop-record.new.self) (string_bytes c.write_record.new.text) = rw at c.in_ok-write_record.ensures in
    write_step g.M.JsonData.json g.M.JsonData.from g.D.JsonPlaces.places g.D.JsonPlaces.from c.args.list.now c.loop-record.record-index c.record-item.result
    (string_bytes c.args.text.now) (string_bytes c.loop-record.text) (string_bytes c.push_str-in-loop-record.new.self) (string_bytes c.write_record.new.text) c.loop-record.separator.now
    c.loop-record-test.true c.loop-record.invariant.0 c.loop-record.invariant.1 c.loop-record.invariant.2 c.in_ok-push_str-2.ensures.bytes w

pub returns : goal.returns
returns g c =
    write_end g.M.JsonData.json g.M.JsonData.from g.D.JsonPlaces.places g.D.JsonPlaces.from c.args.list.now c.loop-record.record-index
    (string_bytes c.args.text.now) (string_bytes c.loop-record.text) (string_bytes c.push_str-2.new.self)
    c.loop-record-test.false c.loop-record.invariant.0 c.loop-record.invariant.2 c.in_ok-push_str-3.ensures.bytes
