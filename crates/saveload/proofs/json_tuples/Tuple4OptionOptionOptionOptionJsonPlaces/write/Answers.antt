use Rattle.std.proofs.Common.{◌≡◌, Err, string_bytes, rules}
use Rattle.saveload.proofs.Begun.{begins_more}
use Rattle.saveload.proofs.KeptTuples.{four_writes}
use Rattle.saveload.proofs.json_tuples.Tuple4OptionOptionOptionOptionJsonPlaces.write.Goals as goal

pub returns-clause-written : goal.returns-clause-written
returns-clause-written g c =
    four_writes g.A.JsonData.json g.A.JsonData.from g.B.JsonData.json g.B.JsonData.from g.C.JsonData.json g.C.JsonData.from g.D.JsonData.json g.D.JsonData.from c.args.self.now
    (string_bytes c.args.text.now) (string_bytes c.push_str.new.self) (string_bytes c.write_place.new.text) (string_bytes c.write_next.new.text) (string_bytes c.write_next-2.new.text) (string_bytes c.write_next-3.new.text) (string_bytes c.push_str-2.new.self)
    c.in_ok-push_str.ensures.bytes (c.in_ok-write_place.ensures.text, c.in_ok-write_place.ensures.read) c.in_ok-write_next.ensures.text c.in_ok-write_next.ensures.read c.in_ok-write_next-2.ensures.text c.in_ok-write_next-2.ensures.read c.in_ok-write_next-3.ensures.text c.in_ok-write_next-3.ensures.read c.in_ok-push_str-2.ensures.bytes

pub returns-in_err-write_next-clause-err : goal.returns-in_err-write_next-clause-err
returns-in_err-write_next-clause-err g c =
    let same : c.from_residual-in_err-write_next.result ≡ Err c.in_err-write_next.field-0.0 = search rules in
    rw same (begins_more _ _ c.in_ok-push_str.ensures.bytes (begins_more _ _ c.in_ok-write_place.ensures.text c.in_err-write_next.ensures.err))

pub returns-in_err-write_next-2-clause-err : goal.returns-in_err-write_next-2-clause-err
returns-in_err-write_next-2-clause-err g c =
    let same : c.from_residual-in_err-write_next-2.result ≡ Err c.in_err-write_next-2.field-0.0 = search rules in
    rw same (begins_more _ _ c.in_ok-push_str.ensures.bytes (begins_more _ _ c.in_ok-write_place.ensures.text (begins_more _ _ c.in_ok-write_next.ensures.text c.in_err-write_next-2.ensures.err)))

pub returns-in_err-write_next-3-clause-err : goal.returns-in_err-write_next-3-clause-err
returns-in_err-write_next-3-clause-err g c =
    let same : c.from_residual-in_err-write_next-3.result ≡ Err c.in_err-write_next-3.field-0.0 = search rules in
    rw same (begins_more _ _ c.in_ok-push_str.ensures.bytes (begins_more _ _ c.in_ok-write_place.ensures.text (begins_more _ _ c.in_ok-write_next.ensures.text (begins_more _ _ c.in_ok-write_next-2.ensures.text c.in_err-write_next-3.ensures.err))))
