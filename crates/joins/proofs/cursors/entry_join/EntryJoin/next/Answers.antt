use Rattle.joins.proofs.CursorLemmas.{beside_same, some_same}
use Rattle.joins.proofs.cursors.entry_join.EntryJoin.next.Goals as goal

pub invariant_of-self : goal.invariant_of-self
invariant_of-self g c = record {
  valid = rw c.next.ensures.mask c.next.ensures.walk;
  alive = c.args.self.now.alive;
}

pub returns-clause-rest : goal.returns-clause-rest
returns-clause-rest g c = rw (c.next.ensures.mask) (rw (beside_same _ _ c.args.self.now.alive (g.J.Mask.Layers.has c.args.self.now.steps.mask 0)) at c.next.ensures.items)

pub returns-clause-there : goal.returns-clause-there
returns-clause-there g c = some_same c.next.result _ _ c.args.self.now.alive c.next.ensures.member
