use Rattle.std.proofs.Common.{string_bytes, to_z-of_z, ap, ◌∙◌}
use Rattle.std.specs.Fmt.{signed_decimal}
use Rattle.saveload.proofs.Kept.{whole_writes}
use Rattle.saveload.proofs.json_numbers.write_whole.Goals as goal

pub returns-clause-written : goal.returns-clause-written
returns-clause-written c =
    whole_writes c.args.number (string_bytes c.args.text.now) c.format.result.now (string_bytes c.push_str.new.self) c.ranges.number
    (c.format.ensures.text ∙ ap signed_decimal (to_z-of_z c.ranges.number)) c.in_ok-push_str.ensures.bytes
