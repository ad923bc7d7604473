use Rattle.std.proofs.Common.{◌≡◌, true, arith, ◌∙◌, sym}
use Rattle.entities.specs.Census.{living_of}
use Rattle.entities.proofs.Kept.Sets.{on_ok, lives_is}
use Rattle.entities.proofs.Kept.Room.{same_room}
use Rattle.entities.proofs.Kept.Stack.{alive_at}
use Rattle.entities.proofs.Population.Steps.{census, sets_marked, population_marked}
use Rattle.entities.proofs.allocator.Allocator.mark_index.Goals as goal

pub invariant_of-self : goal.invariant_of-self
invariant_of-self c =
    let gs = c.self.inside.generations.items in
    let alive : living_of gs c.args.index ≡ true = sym (lives_is (census gs c.self.inside.raised.members c.self.inside.killed.members) c.args.index) ∙ rw (← c.self.view_is) at c.requires in
    let ok = c.add.ensures.had_room (c.self.invariant.roomy.in_sets c.args.index (omega (arith, (alive_at gs c.args.index alive).2, c.self.invariant.roomy.born_within))).2 in
    record {
      stack = c.self.invariant.stack;
      sets = sets_marked gs c.self.inside.alive c.self.inside.raised c.self.inside.killed c.add.new.self c.args.index c.self.invariant.sets alive (on_ok c.add.result ok c.add.ensures.members);
      roomy = same_room _ _ _ _ _ _ _ _ _ _ c.self.invariant.roomy (λ j h. (h.0, h.1, c.add.ensures.room j h.2));
    }

pub returns-clause-marked : goal.returns-clause-marked
returns-clause-marked c =
    let gs = c.self.inside.generations.items in
    let alive : living_of gs c.args.index ≡ true = sym (lives_is (census gs c.self.inside.raised.members c.self.inside.killed.members) c.args.index) ∙ rw (← c.self.view_is) at c.requires in
    let ok = c.add.ensures.had_room (c.self.invariant.roomy.in_sets c.args.index (omega (arith, (alive_at gs c.args.index alive).2, c.self.invariant.roomy.born_within))).2 in
    rw (← c.self.view_is, on_ok c.add.result ok c.add.ensures.members) (population_marked gs c.self.inside.raised.members c.self.inside.killed.members c.args.index alive)
