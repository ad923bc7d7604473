use Rattle.std.proofs.Common.{arith, rules, w64}
use Rattle.std.proofs.lemmas.Nat.Bits.{bit_at-trailing_zeros}
use Rattle.hibits.proofs.StepLemmas.{end_small}
use Rattle.hibits.proofs.walk.descend.Goals as goal

pub overflow_mul-end : goal.overflow_mul-end
overflow_mul-end g c =
    let small = end_small c.args.level c.args.above_end c.requires.fits in
    let low = bit_at-trailing_zeros w64 c.args.above.now c.requires.some (search rules) in
    omega (arith, small, low.0)
