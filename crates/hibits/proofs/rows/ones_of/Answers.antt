use Rattle.std.proofs.Common.{arith, ◌*◌}
use Rattle.std.proofs.lemmas.Nat.{ones-le}
use Rattle.hibits.specs.Rows.{row_bit}
use Rattle.hibits.specs.Counts.{count_within}
use Rattle.hibits.proofs.CountLemmas.{ones_more}
use Rattle.hibits.proofs.rows.ones_of.Goals as goal

pub overflow_add-ones : goal.overflow_add-ones
overflow_add-ones c =
    let few = ones-le 64 _ (c.type_inv.words c.loop-word.word-index).fits in
    let so_far = count_within (row_bit c.args.words.now) (64 * c.loop-word.word-index) in
    omega (arith, c.loop-word.invariant, few, c.requires, c.loop-word-test.true, so_far)

pub loop-word-preserved : goal.loop-word-preserved
loop-word-preserved c =
    let more = ones_more c.args.words.now c.loop-word.word-index (c.type_inv.words c.loop-word.word-index).fits in
    omega (arith, c.loop-word.invariant, more)
