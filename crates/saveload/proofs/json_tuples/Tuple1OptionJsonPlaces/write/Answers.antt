use Rattle.std.proofs.Common.{string_bytes}
use Rattle.saveload.proofs.KeptTuples.{one_writes}
use Rattle.saveload.proofs.json_tuples.Tuple1OptionJsonPlaces.write.Goals as goal

pub returns-clause-written : goal.returns-clause-written
returns-clause-written g c =
    one_writes g.A.JsonData.json g.A.JsonData.from c.args.self.now
    (string_bytes c.args.text.now) (string_bytes c.push_str.new.self) (string_bytes c.write_place.new.text) (string_bytes c.push_str-2.new.self)
    c.in_ok-push_str.ensures.bytes (c.in_ok-write_place.ensures.text, c.in_ok-write_place.ensures.read) c.in_ok-push_str-2.ensures.bytes
