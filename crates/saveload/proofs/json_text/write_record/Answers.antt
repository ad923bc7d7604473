use Rattle.std.proofs.Common.{string_bytes}
use Rattle.saveload.proofs.Kept.{record_writes}
use Rattle.saveload.proofs.json_text.write_record.Goals as goal

pub returns : goal.returns
returns g c =
    record_writes g.M.JsonData.json g.M.JsonData.from g.D.JsonPlaces.places g.D.JsonPlaces.from c.args.saved.now
    (string_bytes c.args.text.now) (string_bytes c.push_str.new.self) (string_bytes c.write.new.text) (string_bytes c.push_str-2.new.self) (string_bytes c.write-2.new.text) (string_bytes c.push_str-3.new.self)
    c.in_ok-push_str.ensures.bytes c.in_ok-write.ensures.written c.in_ok-push_str-2.ensures.bytes c.in_ok-write-2.ensures.written c.in_ok-push_str-3.ensures.bytes
