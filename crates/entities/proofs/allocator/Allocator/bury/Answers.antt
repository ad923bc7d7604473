use Rattle.std.proofs.Common.{◌≡◌, ◌∷◌, ◌++◌, [], cond, eqb, rules, arith, ℕ, suc, ◌+◌, ◌<◌, pos, negsuc, length, w32, FitsSigned, to_z, of_z, ap, ◌∙◌, true, false, refl, ltb, ℤ, Bool, ◌&&◌, List, set, length-set}
use Rattle.std.proofs.lemmas.Int.{to_z-of_z}
use Rattle.std.proofs.lemmas.Bool.{lt-ltb, le-ltb, ltb-true, ltb-false}
use Rattle.std.proofs.lemmas.List.{length_push}
use Rattle.std.proofs.lemmas.List.Sums.{sum_by_push}
use Rattle.std.specs.List.{count_by}
use Rattle.entities.proofs.Kept.Stack.{buried_set, stacked_buried, room_to_die}
use Rattle.entities.proofs.Kept.Room.{moved_room}
use Rattle.entities.proofs.Population.Lowers.{lowered_is}
use Rattle.entities.proofs.Population.Steps.{stands, sets_buried, population_buried}
use lib.Signed.{lt_z}
use Rattle.entities.proofs.allocator.Allocator.bury.Goals as goal

and_true : (b : Bool) → ◌≡◌ {A = ℕ} (cond b 1 0) (cond (b && true) 1 0)
and_true true = refl
and_true false = refl

and_false : (b : Bool) → ◌≡◌ {A = ℕ} 0 (cond (b && false) 1 0)
and_false true = refl
and_false false = refl

one_more : (m i : ℕ) (free free' : List ℕ) → free' ≡ free ++ i ∷ [] → suc m < 2147483647 → (j : ℕ) → count_by (λ x. eqb x j) free' ≡ count_by (λ x. eqb x j) free + cond (eqb i j && ltb (suc m) 2147483647) 1 0
one_more m i free free' e t j = rw (e, lt-ltb _ _ t) (sum_by_push (λ x. cond (eqb x j) 1 0) free i ∙ ap (λ n. count_by (λ x. eqb x j) free + n) (and_true (eqb i j)))

below_last : (g : ℤ) (m : ℕ) → FitsSigned w32 g → g ≡ pos (suc m) → lt_z (to_z w32 (of_z w32 g)) (pos 2147483647) ≡ true → suc m < 2147483647
below_last g m fits p h = ltb-true _ _ (rw (to_z-of_z w32 g fits, p) at h)

at_last : (g : ℤ) (m : ℕ) → FitsSigned w32 g → g ≡ pos (suc m) → lt_z (to_z w32 (of_z w32 g)) (pos 2147483647) ≡ false → 2147483647 < suc m + 1
at_last g m fits p h = omega (arith, ltb-false _ _ (rw (to_z-of_z w32 g fits, p) at h))

no_more : (m i : ℕ) (free : List ℕ) → 2147483647 < suc m + 1 → (j : ℕ) → count_by (λ x. eqb x j) free ≡ count_by (λ x. eqb x j) free + cond (eqb i j && ltb (suc m) 2147483647) 1 0
no_more m i free t j = rw (le-ltb (suc m) 2147483647 (omega arith)) (omega (arith, and_false (eqb i j)))

pub returns-then-e-lt-LAST_GENERATION-clause-dead : goal.returns-then-e-lt-LAST_GENERATION-clause-dead
returns-then-e-lt-LAST_GENERATION-clause-dead c =
    let gs = c.self.inside.generations.items in
    let at = rw (← c.self.view_is) at (stands c.args.self.now c.args.e c.requires) in
    let fits : FitsSigned w32 c.args.e.1.0 = search rules in
    rw (← c.self.view_is, lowered_is _ _ fits at.3, c.remove-2.ensures.members, c.remove-3.ensures.members) (population_buried gs (set gs c.args.e.0 (negsuc at.0)) c.self.inside.raised.members c.self.inside.killed.members c.args.e (buried_set gs c.args.e.0 at.0 at.2 at.1))

pub returns-else-e-lt-LAST_GENERATION-clause-dead : goal.returns-else-e-lt-LAST_GENERATION-clause-dead
returns-else-e-lt-LAST_GENERATION-clause-dead c =
    let gs = c.self.inside.generations.items in
    let at = rw (← c.self.view_is) at (stands c.args.self.now c.args.e c.requires) in
    let fits : FitsSigned w32 c.args.e.1.0 = search rules in
    rw (← c.self.view_is, lowered_is _ _ fits at.3, c.remove-2.ensures.members, c.remove-3.ensures.members) (population_buried gs (set gs c.args.e.0 (negsuc at.0)) c.self.inside.raised.members c.self.inside.killed.members c.args.e (buried_set gs c.args.e.0 at.0 at.2 at.1))

pub invariant_of-self : goal.invariant_of-self
invariant_of-self c =
    let gs = c.self.inside.generations.items in
    let at = rw (← c.self.view_is) at (stands c.args.self.now c.args.e c.requires) in
    let fits : FitsSigned w32 c.args.e.1.0 = search rules in
    let test = below_last _ _ fits at.3 c.if-e-lt-LAST_GENERATION.true in
    let pushed : c.push.new.self.items ≡ c.self.inside.free.items ++ c.args.e.0 ∷ [] = rw (c.push.ensures.succeeds (omega (arith, room_to_die _ _ _ _ c.self.invariant.stack at.2 at.1, c.self.invariant.roomy.born_within, c.self.invariant.roomy.in_stack))) at c.push.ensures.items in
    rw (lowered_is _ _ fits at.3) (record {
      stack = stacked_buried _ _ _ _ _ c.self.invariant.stack at.2 at.1 (one_more _ _ _ _ pushed test) (omega (arith, ap length pushed, length_push c.self.inside.free.items c.args.e.0));
      sets = sets_buried gs (set gs c.args.e.0 (negsuc at.0)) c.self.inside.alive c.self.inside.raised c.self.inside.killed c.remove.new.self c.remove-2.new.self c.remove-3.new.self c.args.e.0 c.self.invariant.sets (buried_set gs c.args.e.0 at.0 at.2 at.1) c.remove.ensures.members c.remove-2.ensures.members c.remove-3.ensures.members;
      roomy = moved_room _ _ _ _ _ _ _ _ _ _ _ _ _ c.self.invariant.roomy (rw (length-set gs c.args.e.0 (negsuc at.0)) c.self.invariant.roomy.born_within) (omega arith) c.push.ensures.capacity (λ j h. (rw c.remove.ensures.room h.0, rw c.remove-2.ensures.room h.1, rw c.remove-3.ensures.room h.2));
    })

pub invariant_of-self-else-e-lt-LAST_GENERATION : goal.invariant_of-self-else-e-lt-LAST_GENERATION
invariant_of-self-else-e-lt-LAST_GENERATION c =
    let gs = c.self.inside.generations.items in
    let at = rw (← c.self.view_is) at (stands c.args.self.now c.args.e c.requires) in
    let fits : FitsSigned w32 c.args.e.1.0 = search rules in
    let test = at_last _ _ fits at.3 c.if-e-lt-LAST_GENERATION.false in
    rw (lowered_is _ _ fits at.3) (record {
      stack = stacked_buried _ _ _ _ _ c.self.invariant.stack at.2 at.1 (no_more at.0 c.args.e.0 c.self.inside.free.items test) (omega arith);
      sets = sets_buried gs (set gs c.args.e.0 (negsuc at.0)) c.self.inside.alive c.self.inside.raised c.self.inside.killed c.remove.new.self c.remove-2.new.self c.remove-3.new.self c.args.e.0 c.self.invariant.sets (buried_set gs c.args.e.0 at.0 at.2 at.1) c.remove.ensures.members c.remove-2.ensures.members c.remove-3.ensures.members;
      roomy = moved_room _ _ _ _ _ _ _ _ _ _ _ _ _ c.self.invariant.roomy (rw (length-set gs c.args.e.0 (negsuc at.0)) c.self.invariant.roomy.born_within) (omega arith) (omega arith) (λ j h. (rw c.remove.ensures.room h.0, rw c.remove-2.ensures.room h.1, rw c.remove-3.ensures.room h.2));
    })
