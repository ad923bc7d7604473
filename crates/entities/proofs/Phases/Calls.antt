-- What the calls of a phase do to a pass.
use Rattle.std.proofs.Common.{◌≡◌, ◌⊎◌, inl, inr, ⊎_elim, ℕ, ◌*◌, ◌/◌, ◌<◌, ◌≤◌, Bool, true, ◌||◌, List, [], ◌∷◌, ◌++◌, length, refl, sym, ◌∙◌, subst, arith, ltb-true}
use Rattle.std.specs.Prelude.{nat_lt, ◌↔◌}
use Rattle.entities.specs.declared.entity.Entity.{Entity}
use Rattle.entities.specs.declared.phase.trace.Step.{Step}
use Rattle.entities.specs.declared.phase.trace.Step.TheVariants.{Look, Mark, Peek}
use Rattle.entities.specs.declared.phase.board.Board.{Board}
use Rattle.entities.specs.declared.phase.pass.Pass.{Pass}
use Rattle.entities.specs.Census.{Census, population}
use Rattle.entities.specs.Kept.{SameBut}
use Rattle.entities.specs.Phase.Trace.{AreCalls, Each}
use Rattle.entities.specs.Phase.Rule.{Among, IsSeen}
use Rattle.entities.specs.Phase.Plan.{phase_of}
use Rattle.entities.specs.Phase.Board.{IsPassOf, IsNext, steps_of_pass}
use Rattle.entities.specs.Phase.Calls.{IsOfReserve, IsOutside, WasAlive, AliveSteps, MarkSteps, PendingSteps}
use Rattle.entities.proofs.Kept.Sets.{same_population}
use Rattle.entities.proofs.Phases.Passes.{mark_calls, marked_new, marked_old, calls_mark_old, calls_peek_new, calls_peek_old, peeked_new, peeked_old, next_two, alive_within}

pub population_but : (c c' : Census) → SameBut c c' → population c' ≡ population c
population_but c c' s = same_population _ _ (λ i. rw s.generations refl) (λ i. rw (s.generations, s.raised) refl) (λ i. rw (s.generations, s.raised) refl) (λ i. rw (s.generations, s.killed) refl)

-- what is_alive found: one that was given out, or one that was alive at the opening
abbrev IsGiven : Board → Pass → Pass → Entity → Type 0
IsGiven board old mid e = (k : ℕ) × (n : ℕ) × IsOfReserve board.plan k e × (k < n) × IsNext old mid (Look n ∷ [])

abbrev IsOld : Board → Pass → Pass → Entity → Type 0
IsOld board old mid e = IsOutside board.plan e × WasAlive board.plan e × (mid ≡ old)

found : (board : Board) (old mid : Pass) (e : Entity) → AliveSteps board old mid e true → IsGiven board old mid e ⊎ IsOld board old mid e
found board old mid e a = ⊎_elim
    (λ (g : (k : ℕ) × (n : ℕ) × IsOfReserve board.plan k e × IsNext old mid (Look n ∷ []) × Each (IsSeen n) (steps_of_pass old) × (true ≡ nat_lt k n)). inl (g.0, g.1, g.2, ltb-true g.0 g.1 (sym g.5), g.3))
    (λ (o : IsOutside board.plan e × (mid ≡ old) × ((true ≡ true) ↔ WasAlive board.plan e)). inr (o.0, o.2.0 refl, o.1))
    a

pub index_within : (board : Board) (old mid : Pass) (e : Entity) → AliveSteps board old mid e true → e.0 / 64 < board.plan.width
index_within board old mid e a = ⊎_elim
    (λ (g : IsGiven board old mid e). let b = board.reserve_within g.0 e g.2 in omega (arith, b))
    (λ (o : IsOld board old mid e). let w = alive_within board.plan.opening.value e o.1 in let b : length board.plan.opening.value.generations ≤ 64 * board.plan.width = board.born_within in omega (arith, w, b))
    (found board old mid e a)

pub mark_after : (board : Board) (old mid : Pass) (e : Entity) → IsPassOf board old → AliveSteps board old mid e true → AreCalls (phase_of board.plan) (steps_of_pass mid ++ Mark e.0 ∷ [])
mark_after board old mid e was a = ⊎_elim
    (λ (g : IsGiven board old mid e). mark_calls board old mid e g.1 g.0 was g.4 g.2 g.3)
    (λ (o : IsOld board old mid e). subst (λ (p : Pass). AreCalls (phase_of board.plan) (steps_of_pass p ++ Mark e.0 ∷ [])) (sym o.2) (calls_mark_old (phase_of board.plan) (steps_of_pass old) e was.calls o.1))
    (found board old mid e a)

pub marked_pass : (board : Board) (old mid new : Pass) (e : Entity) → IsPassOf board old → AliveSteps board old mid e true → IsNext mid new (Mark e.0 ∷ []) → mid.spent ≡ old.spent → new.spent ≡ mid.spent → IsPassOf board new
marked_pass board old mid new e was a next s t = ⊎_elim
    (λ (g : IsGiven board old mid e). marked_new board old mid new e g.1 g.0 was g.4 next s t g.2 g.3)
    (λ (o : IsOld board old mid e). marked_old board old new e was (subst (λ (p : Pass). IsNext p new (Mark e.0 ∷ [])) o.2 next) (t ∙ s) o.1)
    (found board old mid e a)

pub marked_steps : (board : Board) (old mid new : Pass) (e : Entity) → AliveSteps board old mid e true → IsNext mid new (Mark e.0 ∷ []) → MarkSteps board old new e
marked_steps board old mid new e a next = ⊎_elim
    (λ (g : IsGiven board old mid e). inl (g.0, g.1, g.2, g.3, next_two old mid new (Look g.1 ∷ []) (Mark e.0 ∷ []) g.4 next))
    (λ (o : IsOld board old mid e). inr (o.0, o.1, subst (λ (p : Pass). IsNext p new (Mark e.0 ∷ [])) o.2 next))
    (found board old mid e a)

pub peek_after : (board : Board) (old mid : Pass) (e : Entity) → IsPassOf board old → AliveSteps board old mid e true → (b : Bool) → AreCalls (phase_of board.plan) (steps_of_pass mid ++ Peek e.0 b ∷ [])
peek_after board old mid e was a b = ⊎_elim
    (λ (g : IsGiven board old mid e). let next = g.4 in subst (λ (xs : List Step). AreCalls (phase_of board.plan) (xs ++ Peek e.0 b ∷ [])) (sym next.steps) (calls_peek_new (phase_of board.plan) (steps_of_pass old) e g.1 b was.calls (g.0, g.2, g.3)))
    (λ (o : IsOld board old mid e). subst (λ (p : Pass). AreCalls (phase_of board.plan) (steps_of_pass p ++ Peek e.0 b ∷ [])) (sym o.2) (calls_peek_old (phase_of board.plan) (steps_of_pass old) e b was.calls o.1))
    (found board old mid e a)

pub peeked_pass : (board : Board) (old mid new : Pass) (e : Entity) (b : Bool) → IsPassOf board old → AliveSteps board old mid e true → IsNext mid new (Peek e.0 b ∷ []) → mid.spent ≡ old.spent → new.spent ≡ mid.spent → IsPassOf board new
peeked_pass board old mid new e b was a next s t = ⊎_elim
    (λ (g : IsGiven board old mid e). peeked_new board old mid new e g.1 g.0 b was g.4 next s t g.2 g.3)
    (λ (o : IsOld board old mid e). peeked_old board old new e b was (subst (λ (p : Pass). IsNext p new (Peek e.0 b ∷ [])) o.2 next) (t ∙ s) o.1)
    (found board old mid e a)

pub among_left : (s : Step) (xs ys : List Step) → Among s xs → Among s (xs ++ ys)
unfolding Among
among_left s [] ys h = absurd h
among_left s (x ∷ xs) ys h = ⊎_elim (λ (here : x ≡ s). inl here) (λ (later : Among s xs). inr (among_left s xs ys later)) h

pub peeked_steps : (board : Board) (old mid new : Pass) (e : Entity) (m b : Bool) → AliveSteps board old mid e true → IsNext mid new (Peek e.0 m ∷ []) → (Among (Mark e.0) (steps_of_pass mid) → m ≡ true) → b ≡ (m || (population board.plan.opening.value).marked e.0) → PendingSteps board old new e b
peeked_steps board old mid new e m b a next own is = ⊎_elim
    (λ (g : IsGiven board old mid e). inr (inl (g.0, g.1, m, g.2, g.3, next_two old mid new (Look g.1 ∷ []) (Peek e.0 m ∷ []) g.4 next, (λ x. let look = g.4 in own (subst (Among (Mark e.0)) (sym look.steps) (among_left (Mark e.0) (steps_of_pass old) (Look g.1 ∷ []) x))), is)))
    (λ (o : IsOld board old mid e). inr (inr (m, o.0, o.1, subst (λ (p : Pass). IsNext p new (Peek e.0 m ∷ [])) o.2 next, subst (λ (p : Pass). Among (Mark e.0) (steps_of_pass p) → m ≡ true) o.2 own, is)))
    (found board old mid e a)
