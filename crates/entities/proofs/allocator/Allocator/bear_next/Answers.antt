use Rattle.std.proofs.Common.{◌≡◌, ◌∷◌, ◌++◌, ◌<◌, [], rules, arith, pos, refl, length}
use Rattle.std.proofs.lemmas.List.{length_push}
use Rattle.entities.proofs.Kept.Room.{moved_room}
use Rattle.entities.proofs.Kept.Stack.{stacked_push, revived_push}
use Rattle.entities.proofs.Population.Steps.{population_born_as, sets_born_as}
use Rattle.entities.proofs.allocator.Allocator.bear_next.Goals as goal

pub enlist-requires : goal.enlist-requires
enlist-requires c =
    let within : length c.self.inside.generations.items < c.self.inside.room = rw (← c.self.view_is) at c.requires.room in
    let room = c.self.invariant.roomy.in_sets (length c.self.inside.generations.items) within in
    let n : c.len-index.result ≡ length c.self.inside.generations.items = search rules in
    rw n (room.0, room.1)

pub returns-clause-born : goal.returns-clause-born
returns-clause-born c =
    let gs = c.self.inside.generations.items in
    let within : length gs < c.self.inside.room = rw (← c.self.view_is) at c.requires.room in
    let pushed : c.push.new.self.items ≡ gs ++ pos 1 ∷ [] = rw (c.push.ensures.succeeds (omega (arith, within, c.self.invariant.roomy.in_list))) at c.push.ensures.items in
    let n : c.len-index.result ≡ length gs = search rules in
    rw (pushed, n, ← c.self.view_is)
    (population_born_as c.args.pending gs (gs ++ pos 1 ∷ []) c.self.inside.alive c.self.inside.raised c.self.inside.killed c.enlist.new.raised c.self.inside.killed (length gs) c.self.invariant.sets (revived_push gs) (rw n at c.enlist.ensures.raised) refl)

pub invariant_of-self : goal.invariant_of-self
invariant_of-self c =
    let gs = c.self.inside.generations.items in
    let within : length gs < c.self.inside.room = rw (← c.self.view_is) at c.requires.room in
    let none : c.self.inside.free.items ≡ [] = rw (← c.self.view_is) at c.requires.none in
    let pushed : c.push.new.self.items ≡ gs ++ pos 1 ∷ [] = rw (c.push.ensures.succeeds (omega (arith, within, c.self.invariant.roomy.in_list))) at c.push.ensures.items in
    let n : c.len-index.result ≡ length gs = search rules in
    rw pushed (record {
      stack = stacked_push gs _ _ c.self.invariant.stack none none;
      sets = sets_born_as c.args.pending gs (gs ++ pos 1 ∷ []) c.self.inside.alive c.self.inside.raised c.self.inside.killed c.enlist.new.alive c.enlist.new.raised c.self.inside.killed (length gs) c.self.invariant.sets (revived_push gs) (rw n at c.enlist.ensures.alive) (rw n at c.enlist.ensures.raised) refl;
      roomy = moved_room _ _ _ _ _ _ _ _ _ _ _ _ _ c.self.invariant.roomy (omega (arith, length_push gs (pos 1), within)) c.push.ensures.capacity (omega arith) (λ j h. ((c.enlist.ensures.room j).0 h.0, (c.enlist.ensures.room j).1 h.1, h.2));
    })
