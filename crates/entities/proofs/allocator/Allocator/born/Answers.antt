use Rattle.std.proofs.Common.{◌≤◌, length, arith}
use Rattle.hibits.specs.declared.limits.TheConstants.{INDEX_LIMIT}
use Rattle.entities.specs.Census.{Census}
use Rattle.entities.proofs.Population.Givable.{givable_is}
use Rattle.entities.proofs.allocator.Allocator.born.Goals as goal

pub returns-clause-left : goal.returns-clause-left
returns-clause-left c =
    let i = c.self.inside in
    let few : length i.generations.items ≤ INDEX_LIMIT = omega (arith, c.self.invariant.roomy.born_within, c.self.invariant.roomy.few) in
    let s : Census = record { generations = i.generations.items; free = i.free.items; raised = i.raised.members; killed = i.killed.members; room = i.room } in
    rw (← c.self.view_is) (givable_is s c.self.invariant.stack few)
