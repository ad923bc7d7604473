use Rattle.std.proofs.Common.{◌+◌, ◌*◌, w64, rules, sym, ◌∙◌}
use Rattle.std.proofs.lemmas.Nat.Bits.{bit_at_not, bit_at_ones}
use Rattle.hibits.specs.Views.{all_fits, not_word, full_word}
use Rattle.hibits.proofs.views.BitSetNotLayers.word.Goals as goal

pub returns-then-level-eq0-clause-bits : goal.returns-then-level-eq0-clause-bits
returns-then-level-eq0-clause-bits g c j lt =
    bit_at_not w64 c.word-word.result j (search rules) lt
    ∙ not_word (g.A.Layers.has c.args.self.now.0) c.args.level (64 * c.args.place + j) _ (all_fits c.args.level c.args.place j c.requires.level_in c.requires.place_in lt) (c.word-word.ensures.bits j lt) c.if-level-eq0.true

pub returns-else-level-eq0-clause-bits : goal.returns-else-level-eq0-clause-bits
returns-else-level-eq0-clause-bits g c j lt =
    bit_at_ones 64 j lt
    ∙ sym (full_word (g.A.Layers.has c.args.self.now.0) c.args.level (64 * c.args.place + j) 0 (all_fits c.args.level c.args.place j c.requires.level_in c.requires.place_in lt) c.if-level-eq0.false)
