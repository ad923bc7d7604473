use Rattle.composed.proofs.OnParts.{first_alone}
use Rattle.composed.proofs.three.BothThreeFieldsFirstAcross.with_three.Goals as goal

pub returns-in-Some-clause-some : goal.returns-in-Some-clause-some
returns-in-Some-clause-some g c =
    first_alone (λ u s. record { first = g.A.Field.with_part c.args.self.now.first u; rest = s }) c.with_two_and.result _ _ _ _ _ _ _ _ c.in-Some.ensures.value c.with_two_and.ensures.some
