use Rattle.composed.proofs.OnParts.{on_part_three}
use Rattle.composed.proofs.three.BothThreeFieldsInRest.with_three.Goals as goal

pub returns-clause-some : goal.returns-clause-some
returns-clause-some g c = on_part_three (λ b. record { first = c.args.self.now.first; rest = b }) c.with_three.result _ _ _ _ _ _ c.with_three.ensures.some
