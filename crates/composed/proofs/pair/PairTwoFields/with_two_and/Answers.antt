use Rattle.composed.proofs.OnParts.{on_part_and}
use Rattle.composed.proofs.pair.PairTwoFields.with_two_and.Goals as goal

pub returns-clause-some : goal.returns-clause-some
returns-clause-some g c = on_part_and (λ b. record { both = b }) c.with_two_and.result _ _ _ _ _ _ _ c.with_two_and.ensures.some
