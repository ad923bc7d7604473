use Rattle.composed.proofs.OnParts.{on_part_one}
use Rattle.composed.proofs.with_one.WorldWithOne.with_one.Goals as goal

pub returns-clause-some : goal.returns-clause-some
returns-clause-some g c =
    rw c.parts.ensures.value (on_part_one (λ d. let q = c.args.self.now.parts in record { parts = record { core = d; lazy = q.lazy }; kept = c.args.self.now.kept }) c.with_one.result _ _ _ _ _ (rw c.parts.ensures.value at c.with_one.ensures.some))
