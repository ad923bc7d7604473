use Rattle.std.proofs.Common.{◌+◌, rules, arith, pos, w32, FitsSigned, set, refl, ◌∙◌, length-set}
use Rattle.std.proofs.lemmas.Int.{to_z-of_z}
use Rattle.std.proofs.lemmas.List.{get_or_read}
use Rattle.entities.specs.Census.{births_of}
use Rattle.entities.proofs.Kept.Sets.{free_is}
use Rattle.entities.proofs.Kept.Room.{moved_room}
use Rattle.entities.proofs.Kept.Stack.{last_is_free, within, stacked_revived, revived_set}
use Rattle.entities.proofs.Population.Steps.{census, population_born_as, sets_born_as}
use Rattle.entities.proofs.allocator.Allocator.revive.Goals as goal

pub index-requires : goal.index-requires
index-requires c =
    let last = last_is_free _ _ _ _ c.self.invariant.stack c.in-Some.ensures.items in
    omega (arith, within c.self.inside.generations.items c.in-Some.index last)

pub reborn-generation-requires : goal.reborn-generation-requires
reborn-generation-requires c =
    let last = last_is_free _ _ _ _ c.self.invariant.stack c.in-Some.ensures.items in
    let inside = within c.self.inside.generations.items c.in-Some.index last in
    let fits : FitsSigned w32 c.index.result.now = search rules in
    rw (to_z-of_z w32 _ fits, get_or_read _ _ _ inside c.index.ensures (pos 0)) last

pub enlist-requires : goal.enlist-requires
enlist-requires c =
    let last = last_is_free _ _ _ _ c.self.invariant.stack c.in-Some.ensures.items in
    let room = c.self.invariant.roomy.in_sets c.in-Some.index (omega (arith, within c.self.inside.generations.items c.in-Some.index last, c.self.invariant.roomy.born_within)) in
    (room.0, room.1)

pub returns-clause-free : goal.returns-clause-free
returns-clause-free c = rw (← c.self.view_is) (free_is (census c.self.inside.generations.items c.self.inside.raised.members c.self.inside.killed.members) c.in-Some.index ∙ last_is_free _ _ _ _ c.self.invariant.stack c.in-Some.ensures.items)

pub returns-clause-below : goal.returns-clause-below
returns-clause-below c =
    let last = last_is_free _ _ _ _ c.self.invariant.stack c.in-Some.ensures.items in
    omega (arith, within c.self.inside.generations.items c.in-Some.index last, c.self.invariant.roomy.born_within, c.self.invariant.roomy.few)

pub returns-clause-generation : goal.returns-clause-generation
returns-clause-generation c =
    let last = last_is_free _ _ _ _ c.self.invariant.stack c.in-Some.ensures.items in
    let inside = within c.self.inside.generations.items c.in-Some.index last in
    let fits : FitsSigned w32 c.index.result.now = search rules in
    let fits_next : FitsSigned w32 c.reborn-generation.result = search rules in
    let next = rw (to_z-of_z w32 _ fits, get_or_read _ _ _ inside c.index.ensures (pos 0)) at c.reborn-generation.ensures in
    rw (to_z-of_z w32 _ fits_next, ← c.self.view_is) next

pub returns-clause-born : goal.returns-clause-born
returns-clause-born c =
    let gs = c.self.inside.generations.items in
    let i = c.in-Some.index in
    let last = last_is_free _ _ _ _ c.self.invariant.stack c.in-Some.ensures.items in
    let inside = within gs i last in
    let next = rw (← c.self.view_is) at (returns-clause-generation c) in
    rw (next, ← c.self.view_is)
    (population_born_as c.args.pending gs (set gs i (pos (births_of gs i + 1))) c.self.inside.alive c.self.inside.raised c.self.inside.killed c.enlist.new.raised c.self.inside.killed i c.self.invariant.sets (revived_set gs i _ last inside refl) c.enlist.ensures.raised refl)

pub returns-clause-last : goal.returns-clause-last
returns-clause-last c = rw (← c.self.view_is) c.in-Some.ensures.items

pub returns-clause-others : goal.returns-clause-others
returns-clause-others c = rw (← c.self.view_is) (length-set c.self.inside.generations.items c.in-Some.index _, refl)

pub invariant_of-self-2 : goal.invariant_of-self-2
invariant_of-self-2 c =
    let gs = c.self.inside.generations.items in
    let i = c.in-Some.index in
    let last = last_is_free _ _ _ _ c.self.invariant.stack c.in-Some.ensures.items in
    let inside = within gs i last in
    let next = rw (← c.self.view_is) at (returns-clause-generation c) in
    rw next (record {
      stack = stacked_revived _ _ _ _ _ c.self.invariant.stack c.in-Some.ensures.items refl;
      sets = sets_born_as c.args.pending gs (set gs i (pos (births_of gs i + 1))) c.self.inside.alive c.self.inside.raised c.self.inside.killed c.enlist.new.alive c.enlist.new.raised c.self.inside.killed i c.self.invariant.sets (revived_set gs i _ last inside refl) c.enlist.ensures.alive c.enlist.ensures.raised refl;
      roomy = moved_room _ _ _ _ _ _ _ _ _ _ _ _ _ c.self.invariant.roomy (rw (length-set gs i (pos (births_of gs i + 1))) c.self.invariant.roomy.born_within) (omega arith) (omega (arith, c.in-Some.ensures.capacity)) (λ j h. ((c.enlist.ensures.room j).0 h.0, (c.enlist.ensures.room j).1 h.1, h.2));
    })
