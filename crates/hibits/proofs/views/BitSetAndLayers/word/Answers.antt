use Rattle.std.proofs.Common.{◌∙◌}
use Rattle.std.proofs.lemmas.Nat.Bits.{bit_at_and}
use Rattle.hibits.specs.Views.{and_bits}
use Rattle.hibits.proofs.views.BitSetAndLayers.word.Goals as goal

pub returns-clause-bits : goal.returns-clause-bits
returns-clause-bits g c j lt = bit_at_and c.word.result c.word-2.result j ∙ and_bits _ _ _ _ (c.word.ensures.bits j lt) (c.word-2.ensures.bits j lt)
