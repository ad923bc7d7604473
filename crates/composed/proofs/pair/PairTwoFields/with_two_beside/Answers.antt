use Rattle.composed.proofs.OnParts.{on_part_with}
use Rattle.composed.proofs.pair.PairTwoFields.with_two_beside.Goals as goal

pub returns-clause-some : goal.returns-clause-some
returns-clause-some g c = on_part_with (λ b. record { both = b }) c.with_two_beside.result _ _ _ _ _ _ _ _ _ c.with_two_beside.ensures.some
