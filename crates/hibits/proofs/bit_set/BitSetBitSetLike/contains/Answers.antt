use Rattle.std.proofs.Common.{sym, ◌∙◌}
use Rattle.hibits.specs.Sets.{has_part_zero}
use Rattle.hibits.proofs.bit_set.BitSetBitSetLike.contains.Goals as goal

pub returns : goal.returns
returns c = c.contains.ensures.value ∙ sym (has_part_zero c.args.self.now.members c.args.id)
