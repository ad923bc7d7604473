use Rattle.entities.proofs.Kept.Sets.{on_ok}
use Rattle.std.proofs.Common.{arith}
use Rattle.entities.proofs.Kept.Room.{same_room}
use Rattle.entities.proofs.Population.Steps.{stands, sets_marked, population_marked}
use Rattle.entities.proofs.allocator.Allocator.kill_atomic.Goals as goal

pub invariant_of-self : goal.invariant_of-self
invariant_of-self c =
    let at = rw (← c.self.view_is) at (stands c.args.self.now c.args.e (c.is_alive.ensures.alive.0 c.if-not-is_alive.false)) in
    let ok = c.add.ensures.had_room (c.self.invariant.roomy.in_sets c.args.e.0 (omega (arith, at.2, c.self.invariant.roomy.born_within))).2 in
    record {
      stack = c.self.invariant.stack;
      sets = sets_marked c.self.inside.generations.items c.self.inside.alive c.self.inside.raised c.self.inside.killed c.add.new.self c.args.e.0 c.self.invariant.sets at.4 (on_ok c.add.result ok c.add.ensures.members);
      roomy = same_room _ _ _ _ _ _ _ _ _ _ c.self.invariant.roomy (λ j h. (h.0, h.1, c.add.ensures.room j h.2));
    }

pub returns-clause-marked : goal.returns-clause-marked
returns-clause-marked c =
    let at = rw (← c.self.view_is) at (stands c.args.self.now c.args.e (c.is_alive.ensures.alive.0 c.if-not-is_alive.false)) in
    let ok = c.add.ensures.had_room (c.self.invariant.roomy.in_sets c.args.e.0 (omega (arith, at.2, c.self.invariant.roomy.born_within))).2 in
    rw (← c.self.view_is, on_ok c.add.result ok c.add.ensures.members) (population_marked c.self.inside.generations.items c.self.inside.raised.members c.self.inside.killed.members c.args.e.0 at.4)
