use Rattle.std.proofs.Common.{◌∙◌}
use Rattle.std.proofs.lemmas.Nat.Bits.{bit_at_or, bit_at_xor}
use Rattle.hibits.specs.Views.{xor_word, xor_word_above}
use Rattle.hibits.proofs.views.BitSetXorLayers.word.Goals as goal

pub returns-then-level-eq0-clause-bits : goal.returns-then-level-eq0-clause-bits
returns-then-level-eq0-clause-bits g c j lt =
    bit_at_xor c.word-first.result c.word-second.result j
    ∙ xor_word (g.A.Layers.has c.args.self.now.0) (g.B.Layers.has c.args.self.now.1) _ _ _ _ (c.word-first.ensures.bits j lt) (c.word-second.ensures.bits j lt) c.if-level-eq0.true

pub returns-else-level-eq0-clause-bits : goal.returns-else-level-eq0-clause-bits
returns-else-level-eq0-clause-bits g c j lt =
    bit_at_or c.word-first.result c.word-second.result j
    ∙ xor_word_above (g.A.Layers.has c.args.self.now.0) (g.B.Layers.has c.args.self.now.1) _ _ _ _ (c.word-first.ensures.bits j lt) (c.word-second.ensures.bits j lt) c.if-level-eq0.false
