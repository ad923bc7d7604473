use Rattle.composed.proofs.OnParts.{on_part}
use Rattle.composed.proofs.pair.PairTwoFields.with_two.Goals as goal

pub returns-clause-some : goal.returns-clause-some
returns-clause-some g c = on_part (λ b. record { both = b }) c.with_two.result _ _ _ _ _ c.with_two.ensures.some
