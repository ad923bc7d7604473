use Rattle.std.proofs.Common.{to_z-of_z, ap, ◌∙◌}
use Rattle.std.specs.Fmt.{signed_decimal}
use Rattle.saveload.proofs.Kept.{each, whole_takes}
use Rattle.saveload.proofs.json_numbers.after_whole.Goals as goal

pub returns : goal.returns
returns c = each c.after.result c.after.ensures (λ rest e. whole_takes c.args.number c.format.result.now c.args.text.now rest.now c.ranges.number (c.format.ensures.text ∙ ap signed_decimal (to_z-of_z c.ranges.number)) e)
