use Rattle.std.proofs.Common.{rules}
use Rattle.composed.proofs.OnParts.{third_alone}
use Rattle.composed.proofs.three.BothThreeFieldsThirdCrossed.with_three.Goals as goal

pub returns-in-Some-clause-some : goal.returns-in-Some-clause-some
returns-in-Some-clause-some g c =
    third_alone (λ u s. record { first = s; rest = g.B.Field.with_part c.args.self.now.rest u }) c.with_two_and.result _ _ _ _ _ _ _ _ _ (λ a z x y z' x' y' m. search rules) c.in-Some.ensures.value c.with_two_and.ensures.some
