use Rattle.std.proofs.Common.{arith, ◌+◌, ◌*◌, cond, ap, ◌∙◌}
use Rattle.std.specs.Int.{bit_at}
use Rattle.hibits.specs.Sets.{has_part}
use Rattle.hibits.proofs.FirstLemmas.{part_within_limit}
use Rattle.hibits.proofs.RowLemmas.{word_bits, tied_zero}
use Rattle.hibits.proofs.bit_set.BitSet.layer_word.Goals as goal

pub returns-in-0-clause-bits : goal.returns-in-0-clause-bits
returns-in-0-clause-bits c j lt =
    ap (λ n. bit_at n j) c.get.ensures ∙ word_bits _ 0 _ (tied_zero _) c.args.place j lt ∙ (let e = c.in-0.is in rw e (ap (λ s. cond (has_part s.members 0 (64 * c.args.place + j)) 1 0) c.self.view_is))

pub returns-in-0-clause-within : goal.returns-in-0-clause-within
returns-in-0-clause-within c i e =
    part_within_limit _ _ _ _ _ c.self.invariant.rows c.args.level (omega (arith, c.requires)) i (ap (λ s. has_part s.members c.args.level i) c.self.view_is ∙ e)
