-- What a caller of a phase learns of the entities of its passes.
use Rattle.std.specs.Prelude.{◌≡◌, ◌≢◌, ℕ, ◌+◌, ◌<◌, true, List, [], ◌∷◌, ◌++◌, length, slice_index_or}
use Rattle.std.specs.List.{All, Contains}
use Rattle.std.proofs.Common.{refl, subst, sym, ap, ◌∙◌, arith}
use Rattle.std.proofs.lemmas.List.{length_push, get_or_push}
use Rattle.entities.specs.declared.entity.Entity.{Entity}
use Rattle.entities.specs.declared.phase.pass.Pass.{Pass}
use Rattle.entities.specs.Population.{Population, IsAlive, index_of}
use Rattle.entities.specs.Phase.Trace.{Phase}
use Rattle.entities.specs.Phase.Given.{given_of, marks_of, IsBlank, Gains, AreGivenOnce, AreTakenUp}

-- a pass that has just been given an entity was given it
pub newly_given : (o : Phase) (old new : Pass) (e : Entity) (is : List ℕ) → Gains o old new (e ∷ []) is → Contains (given_of o new) e
newly_given o old new e is gains = subst (λ (es : List Entity). Contains es e) (sym gains.given) (length (given_of o old), omega (arith, length_push (given_of o old) e), get_or_push (given_of o old) e e _ refl)

pub newly_marked : (o : Phase) (old new : Pass) (es : List Entity) (i : ℕ) → Gains o old new es (i ∷ []) → Contains (marks_of new) i
newly_marked o old new es i gains = subst (λ (is : List ℕ). Contains is i) (sym gains.marks) (length (marks_of old), omega (arith, length_push (marks_of old) i), get_or_push (marks_of old) i i _ refl)

-- what two passes were given is of two indices
pub given_apart : (o : Phase) (passes : List Pass) (j k : ℕ) (a b : Pass) (e f : Entity) → AreGivenOnce o passes → j < k → k < length passes → slice_index_or passes j a ≡ a → slice_index_or passes k a ≡ b → Contains (given_of o a) e → Contains (given_of o b) f → index_of e ≢ index_of f
given_apart o passes j k a b e f once less lt at_j at_k has_e has_f same =
    let unlike = subst (λ (x : Pass). All (λ d. All (λ g. index_of d ≢ index_of g) (given_of o b)) (given_of o x)) at_j (subst (λ (x : Pass). All (λ d. All (λ g. index_of d ≢ index_of g) (given_of o x)) (given_of o (slice_index_or passes j a))) at_k (once.apart j k a less lt)) in
    unlike has_e.0 e has_e.1 has_f.0 f has_f.1 (ap index_of has_e.2 ∙ same ∙ sym (ap index_of has_f.2))

-- what a pass was given lives once the phase is closed, and what it marked is marked
pub given_alive : (o : Phase) (passes : List Pass) (k : ℕ) (a : Pass) (e : Entity) (after : Population) → AreTakenUp o passes after → k < length passes → slice_index_or passes k a ≡ a → Contains (given_of o a) e → IsAlive after e
given_alive o passes k a e after taken lt at has = subst (IsAlive after) has.2 (subst (λ (x : Pass). All (IsAlive after) (given_of o x)) at (taken.alive k a lt) has.0 e has.1)

pub marked_then : (o : Phase) (passes : List Pass) (k : ℕ) (a : Pass) (i : ℕ) (after : Population) → AreTakenUp o passes after → k < length passes → slice_index_or passes k a ≡ a → Contains (marks_of a) i → after.marked i ≡ true
marked_then o passes k a i after taken lt at has = subst (λ (n : ℕ). after.marked n ≡ true) has.2 (subst (λ (x : Pass). All (λ n. after.marked n ≡ true) (marks_of x)) at (taken.marked k a lt) has.0 i has.1)
