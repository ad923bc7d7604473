use Rattle.std.proofs.Common.{rules}
use Rattle.composed.proofs.OnParts.{beside_three}
use Rattle.composed.proofs.with_three.PartsWithThree.with_three.Goals as goal

pub returns-clause-some : goal.returns-clause-some
returns-clause-some g c =
    beside_three (λ s. record { entities = c.args.self.now.entities; storages = s }) c.with_three.result _ _ _ _ _ _ _ _ (λ a x y z x' y' z' m. search rules) c.with_three.ensures.some
