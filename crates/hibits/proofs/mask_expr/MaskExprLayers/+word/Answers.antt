use Rattle.std.proofs.Common.{◌+◌, ◌*◌, w64, rules, sym, ◌∙◌}
use Rattle.std.proofs.lemmas.Nat.Bits.{bit_at_and, bit_at_or, bit_at_xor, bit_at_not, bit_at_ones}
use Rattle.hibits.specs.MaskExprs.{expr_has}
use Rattle.hibits.specs.Views.{and_bits, or_bits, xor_word, xor_word_above, all_fits, not_word, full_word}
use Rattle.hibits.proofs.mask_expr.MaskExprLayers.+word.Goals as goal

pub returns-in-And-clause-bits : goal.returns-in-And-clause-bits
returns-in-And-clause-bits g t c j lt =
    let first = rw c.deref.ensures at (c.word-in-And.ensures.bits j lt) in
    let second = rw c.deref-in-And.ensures at (c.word-in-And-2.ensures.bits j lt) in
    rw c.in-And.is (bit_at_and c.word-in-And.result c.word-in-And-2.result j ∙ and_bits _ _ _ _ first second)

pub returns-in-Or-clause-bits : goal.returns-in-Or-clause-bits
returns-in-Or-clause-bits g t c j lt =
    let first = rw c.deref-in-Or.ensures at (c.word-in-Or.ensures.bits j lt) in
    let second = rw c.deref-in-Or-2.ensures at (c.word-in-Or-2.ensures.bits j lt) in
    rw c.in-Or.is (bit_at_or c.word-in-Or.result c.word-in-Or-2.result j ∙ or_bits _ _ _ _ first second)

pub returns-then-level-eq0-clause-bits : goal.returns-then-level-eq0-clause-bits
returns-then-level-eq0-clause-bits g t c j lt =
    let first = rw c.deref-in-Xor.ensures at (c.word-first.ensures.bits j lt) in
    let second = rw c.deref-in-Xor-2.ensures at (c.word-second.ensures.bits j lt) in
    rw c.in-Xor.is (bit_at_xor c.word-first.result c.word-second.result j
    ∙ xor_word (expr_has g.M.Layers.has c.in-Xor.a.value) (expr_has g.M.Layers.has c.in-Xor.b.value) _ _ _ _ first second c.if-level-eq0.true)

pub returns-else-level-eq0-clause-bits : goal.returns-else-level-eq0-clause-bits
returns-else-level-eq0-clause-bits g t c j lt =
    let first = rw c.deref-in-Xor.ensures at (c.word-first.ensures.bits j lt) in
    let second = rw c.deref-in-Xor-2.ensures at (c.word-second.ensures.bits j lt) in
    rw c.in-Xor.is (bit_at_or c.word-first.result c.word-second.result j
    ∙ xor_word_above (expr_has g.M.Layers.has c.in-Xor.a.value) (expr_has g.M.Layers.has c.in-Xor.b.value) _ _ _ _ first second c.if-level-eq0.false)

pub returns-then-level-eq0-2-clause-bits : goal.returns-then-level-eq0-2-clause-bits
returns-then-level-eq0-2-clause-bits g t c j lt =
    let inner = rw c.deref-in-Not.ensures at (c.word-word.ensures.bits j lt) in
    rw c.in-Not.is (bit_at_not w64 c.word-word.result j (search rules) lt
    ∙ not_word (expr_has g.M.Layers.has c.in-Not.a.value) c.args.level (64 * c.args.place + j) _ (all_fits c.args.level c.args.place j c.requires.level_in c.requires.place_in lt) inner c.if-level-eq0-2.true)

pub returns-else-level-eq0-2-clause-bits : goal.returns-else-level-eq0-2-clause-bits
returns-else-level-eq0-2-clause-bits g t c j lt =
    rw c.in-Not.is (bit_at_ones 64 j lt
    ∙ sym (full_word (expr_has g.M.Layers.has c.in-Not.a.value) c.args.level (64 * c.args.place + j) 0 (all_fits c.args.level c.args.place j c.requires.level_in c.requires.place_in lt) c.if-level-eq0-2.false))
