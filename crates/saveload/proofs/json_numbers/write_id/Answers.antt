use Rattle.std.proofs.Common.{string_bytes, arith}
use Rattle.saveload.proofs.Kept.{id_writes}
use Rattle.saveload.proofs.json_numbers.write_id.Goals as goal

pub returns-clause-written : goal.returns-clause-written
returns-clause-written c = id_writes c.args.number (string_bytes c.args.text.now) c.format.result.now (string_bytes c.push_str.new.self) (grind arith) c.format.ensures.text c.in_ok-push_str.ensures.bytes
