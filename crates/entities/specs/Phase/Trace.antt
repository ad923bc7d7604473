-- A phase as lists of steps: what the passes of an opened phase may do, in any order.
use Rattle.std.specs.Prelude.{◌≡◌, ◌⊎◌, ℕ, ◌+◌, ◌<◌, ◌≤◌, ◌==◌, nat_le, Bool, true, false, cond, List, [], ◌∷◌, Some, slice_get, flat_map, take, length}
use Rattle.std.specs.Option.{option_to_list}
use Rattle.entities.specs.declared.entity.Entity.{Entity}
use Rattle.entities.specs.Population.{Population, IsAlive, index_of}
use Rattle.entities.specs.Phase.Reserve.{AreNew, AreApart}
use Rattle.entities.specs.declared.phase.trace.Step.{Step}
use Rattle.entities.specs.declared.phase.trace.Step.TheVariants.{Draw, Look, Mark, Peek}

-- What a phase opened with: the population, the entities that it may give out, in order, and the number of passes
pub record Phase : Type 0 where
  pub opening : Population
  pub reserve : List Entity
  pub passes : ℕ

-- how many tickets were drawn, and the indices that were marked, the last one first
pub record Reached : Type 0 where
  pub cursor : ℕ
  pub marks : List ℕ

abbrev pub start : Reached
start = record { cursor = 0; marks = [] }

abbrev pub in_marks : ℕ → List ℕ → Bool
in_marks i [] = false
in_marks i (j ∷ js) = cond (i == j) true (in_marks i js)

abbrev pub after : Reached → Step → Reached
after w (Draw n) = record { cursor = w.cursor + 1; marks = w.marks }
after w (Look n) = w
after w (Mark i) = record { cursor = w.cursor; marks = i ∷ w.marks }
after w (Peek i b) = w

-- the answer of a step is what the words say
abbrev pub IsRight : Reached → Step → Type 0
IsRight w (Draw n) = n ≡ w.cursor
IsRight w (Look n) = n ≡ w.cursor
IsRight w (Mark i) = Unit {0}
IsRight w (Peek i b) = b ≡ in_marks i w.marks

-- P holds of each element
abbrev pub Each : {X : Type 0} → (X → Type 0) → List X → Type 0
Each P [] = Unit {0}
Each P (x ∷ xs) = P x × Each P xs

-- a step with the number of its pass
abbrev pub Event : Type 0
Event = ℕ × Step

abbrev pub run : Reached → List Event → Reached
run w [] = w
run w (e ∷ es) = run (after w e.1) es

abbrev pub AreRight : Reached → List Event → Type 0
AreRight w [] = Unit {0}
AreRight w (e ∷ es) = IsRight w e.1 × AreRight (after w e.1) es

-- the steps of one pass, in order
abbrev pub steps_of : ℕ → List Event → List Step
steps_of p [] = []
steps_of p (e ∷ es) = cond (p == e.0) (e.1 ∷ steps_of p es) (steps_of p es)

-- A call of a pass, with what its steps answered. A call that was only begun has the steps of a shorter one
pub data Call : Type 0 where
  creates : ℕ → Call
  looks : ℕ → Call
  marks_new : Entity → ℕ → Call
  marks_old : Entity → Call
  peeks_new : Entity → ℕ → Bool → Call
  peeks_old : Entity → Bool → Call

abbrev pub steps_of_call : Call → List Step
steps_of_call (creates n) = Draw n ∷ []
steps_of_call (looks n) = Look n ∷ []
steps_of_call (marks_new e n) = Look n ∷ Mark (index_of e) ∷ []
steps_of_call (marks_old e) = Mark (index_of e) ∷ []
steps_of_call (peeks_new e n b) = Look n ∷ Peek (index_of e) b ∷ []
steps_of_call (peeks_old e b) = Peek (index_of e) b ∷ []

-- e is of the reserve, at a place below n
abbrev pub IsGivenBelow : List Entity → Entity → ℕ → Type 0
IsGivenBelow reserve e n = (k : ℕ) × (slice_get reserve k ≡ Some e) × (k < n)

abbrev pub IsLegal : Phase → Call → Type 0
IsLegal o (creates n) = Unit {0}
IsLegal o (looks n) = Unit {0}
IsLegal o (marks_new e n) = IsGivenBelow o.reserve e n
IsLegal o (marks_old e) = IsAlive o.opening e
IsLegal o (peeks_new e n b) = IsGivenBelow o.reserve e n
IsLegal o (peeks_old e b) = IsAlive o.opening e

abbrev pub one_if : Bool → ℕ
one_if true = 1
one_if false = 0

-- how many tickets at or past n a pass drew
abbrev pub misses : ℕ → List Step → ℕ
misses n [] = 0
misses n (Draw t ∷ ss) = one_if (nat_le n t) + misses n ss
misses n (Look t ∷ ss) = misses n ss
misses n (Mark i ∷ ss) = misses n ss
misses n (Peek i b ∷ ss) = misses n ss

-- the steps of a list of calls, of which one at most found the reserve used up
pub record AreCalls (o : Phase) (steps : List Step) : Type 0 where
  pub calls : List Call
  pub same : steps ≡ flat_map steps_of_call calls
  pub legal : Each (IsLegal o) calls
  pub spent : misses (length o.reserve) steps ≤ 1

pub record IsInterleaving (o : Phase) (trace : List Event) : Type 0 where
  pub right : AreRight start trace
  pub calls : (p : ℕ) → AreCalls o (steps_of p trace)
  pub numbers : Each (λ e. e.0 < o.passes) trace

-- the entities that the passes were given, in the order of the tickets
abbrev pub given_to : List Entity → Step → List Entity
given_to reserve (Draw n) = option_to_list (slice_get reserve n)
given_to reserve (Look n) = []
given_to reserve (Mark i) = []
given_to reserve (Peek i b) = []

abbrev pub given : List Entity → List Event → List Entity
given reserve trace = flat_map (λ e. given_to reserve e.1) trace

-- the index of some entity that was alive at the opening, or that was given out
abbrev pub IsOfAlive : Phase → ℕ → ℕ → Type 0
IsOfAlive o cursor i = ((e : Entity) × (IsAlive o.opening e) × (index_of e ≡ i)) ⊎ ((e : Entity) × IsGivenBelow o.reserve e cursor × (index_of e ≡ i))

-- What holds of a phase, in whatever order its passes made their steps
pub record IsSound (o : Phase) (trace : List Event) : Type 0 where
  -- the entities given out are the first of the reserve
  pub given_first : given o.reserve trace ≡ take (run start trace).cursor o.reserve
  -- none is given out twice
  pub given_once : AreApart (given o.reserve trace)
  -- and none was given out before
  pub given_new : AreNew o.opening (given o.reserve trace)
  pub bounded : (run start trace).cursor ≤ length o.reserve + o.passes
  pub marked_alive : (i : ℕ) → in_marks i (run start trace).marks ≡ true → IsOfAlive o (run start trace).cursor i
