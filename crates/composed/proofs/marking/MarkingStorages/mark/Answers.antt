use Rattle.entities.specs.Census.{population}
use Rattle.composed.proofs.Sides.{gives_sole}
use Rattle.specs.specs.Typed.Shown.{if_ok}
use Rattle.composed.proofs.marking.MarkingStorages.mark.Goals as goal

pub returns-clause-ok : goal.returns-clause-ok
returns-clause-ok g c =
    if_ok c.mark.result _ _ (gives_sole _ _ (λ m h. g.met.A.MarkerAllocator.comes c.args.self.now.allocator m h.0) (population c.args.entities.now) _ _ c.args.e c.args._slot) c.mark.ensures.ok
