use Rattle.std.proofs.Common.{rules}
use Rattle.composed.proofs.OnParts.{beside_two}
use Rattle.composed.proofs.with_two.PartsWithTwo.with_two.Goals as goal

pub returns-clause-some : goal.returns-clause-some
returns-clause-some g c =
    beside_two (λ s. record { entities = c.args.self.now.entities; storages = s }) c.with_two.result _ _ _ _ _ _ _ (λ a x y x' y' m. search rules) c.with_two.ensures.some
