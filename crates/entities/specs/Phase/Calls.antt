-- What the calls of a phase answer.
use Rattle.std.specs.Prelude.{◌≡◌, ◌≢◌, ◌⊎◌, ◌↔◌, IsTrue, ℕ, ◌+◌, ◌-◌, ◌<◌, ◌≤◌, ◌||◌, nat_lt, Bool, true, false, List, [], ◌∷◌, length, take, Some, slice_get, min}
use Rattle.hibits.specs.Counts.{count_below}
use Rattle.entities.specs.declared.phase.trace.Step.TheVariants.{Draw, Look, Mark, Peek}
use Rattle.entities.specs.declared.entity.Entity.{Entity}
use Rattle.entities.specs.declared.phase.board.Board.{Board}
use Rattle.entities.specs.declared.phase.pass.Pass.{Pass}
use Rattle.entities.specs.declared.phase.plan.Plan.{Plan}
use Rattle.entities.specs.declared.phase.trace.Line.{Line}
use Rattle.entities.specs.Population.{Population, IsAlive, index_of}
use Rattle.entities.specs.Census.{Census, population}
use Rattle.entities.specs.Kept.{SameBut}
use Rattle.entities.specs.Upcoming.{upcoming}
use Rattle.entities.specs.Phase.Reserve.{IsReserve, with_births, with_marks}
use Rattle.entities.specs.Phase.Trace.{Phase, Each, Event, IsInterleaving, IsSound, run, start, in_marks}
use Rattle.entities.specs.Phase.Rule.{Among, IsSeen, IsRecorded, lines_of, AmongLines}
use Rattle.entities.specs.Phase.Plan.{AreLocated}
use Rattle.entities.specs.Phase.Board.{IsNext, steps_of_pass, is_spent}

-- The entities are as they were at the opening, with room for the reserve, which is of the next births, each findable by its index
pub record IsOpen (c : Census) (board : Board) : Type 0 where
  pub same : SameBut board.plan.opening.value c
  pub room : length board.plan.reserve.items ≤ length c.free + (c.room - length c.generations)
  pub next : board.plan.reserve.items ≡ upcoming board.plan.opening.value (length board.plan.reserve.items)
  pub located : AreLocated board.plan
  pub reserve : IsReserve (population board.plan.opening.value) board.plan.reserve.items

abbrev pub IsOfReserve : Plan → ℕ → Entity → Type 0
IsOfReserve plan k e = slice_get plan.reserve.items k ≡ Some e

abbrev pub IsOutside : Plan → Entity → Type 0
IsOutside plan e = (k : ℕ) → slice_get plan.reserve.items k ≢ Some e

abbrev pub WasAlive : Plan → Entity → Type 0
WasAlive plan e = IsAlive (population plan.opening.value) e

-- create, where the reserve is used up: a ticket past it, or of a pass that was spent no step
abbrev pub SpentSteps : Board → Pass → Pass → Type 0
SpentSteps board old new = (is_spent new ≡ true) × (is_spent old ≡ true → new ≡ old) × (is_spent old ≡ false → (t : ℕ) × IsNext old new (Draw t ∷ []) × (length board.plan.reserve.items ≤ t))

-- is_alive: one Look, which finds an entity of the reserve given out if its place is below; of any other entity no step
abbrev pub AliveSteps : Board → Pass → Pass → Entity → Bool → Type 0
AliveSteps board old new e b =
    ((k : ℕ) × (n : ℕ) × IsOfReserve board.plan k e × IsNext old new (Look n ∷ []) × Each (IsSeen n) (steps_of_pass old) × (b ≡ nat_lt k n))
    ⊎ (IsOutside board.plan e × (new ≡ old) × (IsTrue b ↔ WasAlive board.plan e))

-- delete, where it answers Ok: the steps of is_alive and then a Mark
abbrev pub MarkSteps : Board → Pass → Pass → Entity → Type 0
MarkSteps board old new e =
    ((k : ℕ) × (n : ℕ) × IsOfReserve board.plan k e × (k < n) × IsNext old new (Look n ∷ Mark (index_of e) ∷ []))
    ⊎ (IsOutside board.plan e × WasAlive board.plan e × IsNext old new (Mark (index_of e) ∷ []))

-- pending: the steps of is_alive, and if it is alive a Peek: it is pending if it was marked then, as it is by the pass's own
-- marks, or before the opening
abbrev pub PendingSteps : Board → Pass → Pass → Entity → Bool → Type 0
PendingSteps board old new e b =
    (AliveSteps board old new e false × (b ≡ false))
    ⊎ (((k : ℕ) × (n : ℕ) × (m : Bool) × IsOfReserve board.plan k e × (k < n) × IsNext old new (Look n ∷ Peek (index_of e) m ∷ []) × (Among (Mark (index_of e)) (steps_of_pass old) → m ≡ true) × (b ≡ (m || (population board.plan.opening.value).marked (index_of e))))
    ⊎ ((m : Bool) × IsOutside board.plan e × WasAlive board.plan e × IsNext old new (Peek (index_of e) m ∷ []) × (Among (Mark (index_of e)) (steps_of_pass old) → m ≡ true) × (b ≡ (m || (population board.plan.opening.value).marked (index_of e)))))

-- in whatever order the passes make their steps
abbrev pub EveryOrderIsSound : Phase → Type 0
EveryOrderIsSound o = (trace : List Event) → IsInterleaving o trace → IsSound o trace

-- n is how many indices pass the test
abbrev pub IsCountOf : ℕ → (ℕ → Bool) → Type 0
IsCountOf n f = (bound : ℕ) × ((i : ℕ) → f i ≡ true → i < bound) × (n ≡ count_below f bound)

-- What a phase leaves, by one interleaving: the joined record of the passes that came back has their steps of it, and, if all came back,
-- it has no others; the first entities of the reserve are pending births, and what was marked is marked
pub record IsClosed (o : Phase) (record_back : List Line) (before after : Population) (births marks : ℕ) : Type 0 where
  pub trace : List Event
  pub leads : IsInterleaving o trace
  pub recorded : IsRecorded trace record_back
  pub once : (p : ℕ) → lines_of p record_back ≤ 1
  pub complete : length record_back ≡ o.passes → Each (λ e. lines_of e.0 record_back ≡ 1) trace
  -- what the passes that came back were given is born, and what they were told is marked
  pub given_are_born : (t : ℕ) → AmongLines (Draw t) record_back → t < (run start trace).cursor
  pub told_are_marked : (i : ℕ) → AmongLines (Mark i) record_back → in_marks i (run start trace).marks ≡ true
  -- and if all came back, nothing else is
  pub births_were_given : length record_back ≡ o.passes → (t : ℕ) → t < births → AmongLines (Draw t) record_back
  pub marks_were_told : length record_back ≡ o.passes → (i : ℕ) → in_marks i (run start trace).marks ≡ true → AmongLines (Mark i) record_back
  pub births_are : births ≡ min (run start trace).cursor (length o.reserve)
  pub leaves : after ≡ with_marks (λ i. in_marks i (run start trace).marks) (with_births (take births o.reserve) before)
  pub marks_are : IsCountOf marks (λ i. in_marks i (run start trace).marks)
