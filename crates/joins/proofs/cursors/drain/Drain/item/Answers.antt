use Rattle.joins.proofs.PassedLemmas.{gone_or_same, walk_after, rest_after}
use Rattle.joins.proofs.cursors.drain.Drain.item.Goals as goal

pub invariant_of-self : goal.invariant_of-self
invariant_of-self g c =
    let at = c.args.self.now.steps.here c.in-Some.id c.in-Some.is in
    let r = c.remove.ensures in
    record { valid = walk_after _ _ c.in-Some.id (gone_or_same _ _ _ c.remove.result r.value r.removed r.absent r.err) c.args.self.now.steps.walk at.1 _ c.args.self.now.valid }

pub returns-clause-rest : goal.returns-clause-rest
returns-clause-rest g c =
    let at = c.args.self.now.steps.here c.in-Some.id c.in-Some.is in
    let r = c.remove.ensures in
    rest_after _ _ c.in-Some.id (gone_or_same _ _ _ c.remove.result r.value r.removed r.absent r.err) c.args.self.now.steps.walk at.1 _
