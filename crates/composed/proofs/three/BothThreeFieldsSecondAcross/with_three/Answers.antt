use Rattle.std.proofs.Common.{rules}
use Rattle.composed.proofs.OnParts.{second_alone}
use Rattle.composed.proofs.three.BothThreeFieldsSecondAcross.with_three.Goals as goal

pub returns-in-Some-clause-some : goal.returns-in-Some-clause-some
returns-in-Some-clause-some g c =
    second_alone (λ u s. record { first = g.A.Field.with_part c.args.self.now.first u; rest = s }) c.with_two_and.result _ _ _ _ _ _ _ _ _ (λ a y x z y' x' z' m. search rules) c.in-Some.ensures.value c.with_two_and.ensures.some
