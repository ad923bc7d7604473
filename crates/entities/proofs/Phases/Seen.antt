-- Whom a pass saw alive lives as long as the phase, and is told marked where the pass marked it.
use Rattle.std.proofs.Common.{◌≡◌, ◌⊎◌, inl, inr, ℕ, ◌+◌, ◌<◌, Bool, true, false, ◌||◌, List, [], ◌∷◌, ◌++◌, refl, sym, ap, ◌∙◌, subst, arith, Some}
use Rattle.std.specs.Prelude.{slice_get}
use Rattle.std.specs.List.{Contains}
use Rattle.std.proofs.lemmas.Bool.{false≢true, lt-ltb, ltb-true}
use Rattle.entities.specs.declared.entity.Entity.{Entity}
use Rattle.entities.specs.declared.phase.board.Board.{Board}
use Rattle.entities.specs.declared.phase.pass.Pass.{Pass}
use Rattle.entities.specs.declared.phase.trace.Step.{Step}
use Rattle.entities.specs.declared.phase.trace.Step.TheVariants.{Draw, Look, Mark, Peek}
use Rattle.entities.specs.Census.{Census}
use Rattle.entities.specs.Phase.Board.{IsNext, steps_of_pass}
use Rattle.entities.specs.Phase.Calls.{IsOpen, AliveSteps, MarkSteps, PendingSteps}
use Rattle.entities.specs.Phase.Given.{marks_of, ShowsGiven, SawAlive}
use Rattle.entities.specs.Phase.Plan.{phase_of}
use Rattle.entities.specs.Phase.Rule.{IsSeen, Among}
use Rattle.entities.specs.Phase.Trace.{Phase, Each}
use Rattle.entities.proofs.Phases.Given.{each_last, pass_marked}
use Rattle.entities.proofs.Phases.Passes.{all_from_each}

-- a step that was made is among the pass's
among_added : (s : Step) (xs ys : List Step) → Among s ys → Among s (xs ++ ys)
unfolding Among
among_added s [] ys h = h
among_added s (x ∷ xs) ys h = inr (among_added s xs ys h)

saw_by : (o : Phase) (old new : Pass) (added : List Step) (place : ℕ) (s : Step) (e : Entity) → IsNext old new added → Among s added → slice_get o.reserve place ≡ Some e → ShowsGiven place s → SawAlive o new e
saw_by o old new added place s e next made at shows = inl (place, s, at, subst (Among s) (sym next.steps) (among_added s (steps_of_pass old) added made), shows)

-- who was given out is seen
pub saw_given : (o : Phase) (old new : Pass) (t : ℕ) (e : Entity) → IsNext old new (Draw t ∷ []) → slice_get o.reserve t ≡ Some e → SawAlive o new e
unfolding Among
saw_given o old new t e next at = saw_by o old new (Draw t ∷ []) t (Draw t) e next (inl refl) at (omega arith)

pub saw_alive : (board : Board) (old new : Pass) (e : Entity) (b : Bool) → AliveSteps board old new e b → b ≡ true → SawAlive (phase_of board.plan) new e
unfolding Among
saw_alive board old new e b steps on = elim steps [
  | inl s ↦ saw_by (phase_of board.plan) old new (Look s.1 ∷ []) s.0 (Look s.1) e s.3 (inl refl) s.2 (ltb-true s.0 s.1 (sym s.5 ∙ on))
  | inr s ↦ let is = s.2 in inr (s.0, is.0 on)
]

pub saw_marked : (board : Board) (old new : Pass) (e : Entity) → MarkSteps board old new e → SawAlive (phase_of board.plan) new e
unfolding Among
saw_marked board old new e steps = elim steps [
  | inl s ↦ saw_by (phase_of board.plan) old new (Look s.1 ∷ Mark e.0 ∷ []) s.0 (Look s.1) e s.4 (inl refl) s.2 s.3
  | inr s ↦ inr (s.0, s.1)
]

-- a Look finds given out what a step of the pass showed before
looked : (place n : ℕ) (s : Step) → ShowsGiven place s → IsSeen n s → place < n
looked place n (Draw t) shows seen = omega (arith, shows, seen)
looked place n (Look t) shows seen = omega (arith, shows, seen)
looked place n (Mark i) shows seen = absurd shows
looked place n (Peek i b) shows seen = absurd shows

pub stays_alive : (board : Board) (c : Census) (old new : Pass) (e : Entity) (b : Bool) → IsOpen c board → AliveSteps board old new e b → SawAlive (phase_of board.plan) old e → b ≡ true
stays_alive board c old new e b opened steps saw = elim steps [
  | inl s ↦ elim saw [
    | inl w ↦
        let same : s.0 ≡ w.0 = sym (opened.located s.0 e s.2) ∙ opened.located w.0 e w.2 in
        let below : w.0 < s.1 = looked w.0 s.1 w.1 w.4 (each_last (IsSeen s.1) (steps_of_pass old) w.1 s.4 w.3) in
        s.5 ∙ lt-ltb s.0 s.1 (omega (arith, same, below))
    | inr w ↦ absurd (w.0 s.0 s.2)
  ]
  | inr s ↦ elim saw [
    | inl w ↦ absurd (s.0 w.0 w.2)
    | inr w ↦ let is = s.2 in is.1 w.1
  ]
]

pub saw_pending : (board : Board) (old new : Pass) (e : Entity) (b : Bool) → PendingSteps board old new e b → b ≡ true → SawAlive (phase_of board.plan) new e
unfolding Among
saw_pending board old new e b steps on = elim steps [
  | inl s ↦ absurd (false≢true (sym s.1 ∙ on))
  | inr t ↦ elim t [
    | inl s ↦ saw_by (phase_of board.plan) old new (Look s.1 ∷ Peek e.0 s.2 ∷ []) s.0 (Look s.1) e s.5 (inl refl) s.3 s.4
    | inr s ↦ inr (s.1, s.2)
  ]
]

either : (m w b : Bool) → b ≡ (m || w) → m ≡ true → b ≡ true
either true w b is on = is
either false w b is on = absurd (false≢true on)

-- its own mark is told of an entity that the pass saw alive
pub own_pending : (board : Board) (c : Census) (old new : Pass) (e : Entity) (b : Bool) → IsOpen c board → PendingSteps board old new e b → Contains (marks_of old) e.0 → SawAlive (phase_of board.plan) old e → b ≡ true
own_pending board c old new e b opened steps marked saw =
    let made : Among (Mark e.0) (steps_of_pass old) = subst (λ (i : ℕ). Among (Mark i) (steps_of_pass old)) marked.2 (all_from_each (λ (i : ℕ). Among (Mark i) (steps_of_pass old)) (marks_of old) (pass_marked old) marked.0 e.0 marked.1) in
    elim steps [
      | inl s ↦ absurd (false≢true (stays_alive board c old new e false opened s.0 saw))
      | inr t ↦ elim t [
        | inl s ↦ either s.2 _ b s.7 (s.6 made)
        | inr s ↦ either s.0 _ b s.5 (s.4 made)
      ]
    ]
