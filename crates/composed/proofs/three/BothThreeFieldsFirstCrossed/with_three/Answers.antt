use Rattle.composed.proofs.OnParts.{first_alone}
use Rattle.composed.proofs.three.BothThreeFieldsFirstCrossed.with_three.Goals as goal

pub returns-in-Some-clause-some : goal.returns-in-Some-clause-some
returns-in-Some-clause-some g c =
    first_alone (λ u s. record { first = s; rest = g.B.Field.with_part c.args.self.now.rest u }) c.with_two_and.result _ _ _ _ _ _ _ _ c.in-Some.ensures.value c.with_two_and.ensures.some
