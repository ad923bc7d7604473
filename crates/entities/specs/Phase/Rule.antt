-- What the words of a phase and the records of its passes have to do with each other, between any two steps.
use Rattle.std.specs.Prelude.{◌≡◌, ◌⊎◌, ◌≤◌, Bool, true, not, ◌&&◌, bit_and, ℕ, zero, suc, ◌+◌, ◌<◌, ◌==◌, ◌/◌, ◌%◌, ◌^◌, nat_lt, cond, List, [], ◌∷◌, ◌++◌, length, slice_index, bit_or}
use mathlib.Core.Option.{some}
use lib.ListN.{get_elem?}
use Rattle.atomic_table.specs.Table.{State, Me, Step as TableStep}
use Rattle.entities.specs.declared.phase.trace.Step.{Step}
use Rattle.entities.specs.declared.phase.trace.Step.TheVariants.{Draw, Look, Mark, Peek}
use Rattle.entities.specs.declared.phase.trace.Line.{Line}
use Rattle.entities.specs.Phase.Trace.{Phase, Event, Each, one_if, start, run, in_marks, steps_of, IsInterleaving}

abbrev pub line : ℕ → List Step → Line
line p ss = record { pass = p; steps = ss }

-- how many lines are of the pass p
abbrev pub lines_of : ℕ → List Line → ℕ
lines_of p [] = 0
lines_of p (x ∷ xs) = one_if (p == x.pass) + lines_of p xs

abbrev pub total : (List Line → ℕ) → List (List Line) → ℕ
total f [] = 0
total f (v ∷ vs) = f v + total f vs

-- the word w of the marks
abbrev pub marks_word : ℕ → List ℕ → ℕ
marks_word w [] = 0
marks_word w (i ∷ is) = cond (i / 64 == w) (bit_or (marks_word w is) (2 ^ (i % 64))) (marks_word w is)

-- the lines of a record are those that the interleaving has
abbrev pub IsRecorded : List Event → List Line → Type 0
IsRecorded trace v = Each (λ x. steps_of x.pass trace ≡ x.steps) v

-- The words say where some interleaving leads. Each record has its passes' steps of it, and each pass stands in one record
pub record Agree (o : Phase) (width : ℕ) (words : List ℕ) (views : List (List Line)) : Type 0 where
  pub trace : List Event
  pub leads : IsInterleaving o trace
  pub count : length words ≡ width + 1
  pub cursor : slice_index words 0 ≡ (run start trace).cursor
  pub marks : (w : ℕ) → w < width → slice_index words (w + 1) ≡ marks_word w (run start trace).marks
  pub recorded : (id : ℕ) (v : List Line) → get_elem? views id ≡ some v → IsRecorded trace v
  pub once : (p : ℕ) → total (lines_of p) views ≡ one_if (nat_lt p o.passes)
  pub whole : total length views ≡ o.passes

-- the record of passes k, k + 1, .. that have made no step
abbrev pub blank_lines : ℕ → ℕ → List Line
blank_lines k zero = []
blank_lines k (suc n) = line k [] ∷ blank_lines (k + 1) n

abbrev pub first_line : List Line → List Line
first_line [] = []
first_line (x ∷ xs) = x ∷ []

abbrev pub other_lines : List Line → List Line
other_lines [] = []
other_lines (x ∷ xs) = xs

-- the record of one pass after one more step
abbrev pub with_step : Step → List Line → List Line
with_step s [] = []
with_step s (x ∷ xs) = line x.pass (x.steps ++ s ∷ []) ∷ xs

abbrev pub number_of : List Line → ℕ
number_of [] = 0
number_of (x ∷ xs) = x.pass

abbrev pub steps_in : List Line → List Step
steps_in [] = []
steps_in (x ∷ xs) = x.steps

-- the record of one pass
abbrev pub IsOne : List Line → Type 0
IsOne v = v ≡ line (number_of v) (steps_in v) ∷ []

-- bit i % 64 of the word n
abbrev pub bit_of : ℕ → ℕ → Bool
bit_of i n = not (bit_and n (2 ^ (i % 64)) == 0)

-- whether the words of a phase mark the index
abbrev pub marks_index : List ℕ → ℕ → Bool
marks_index words i = bit_of i (slice_index words (i / 64 + 1))

-- the same, of the indices below n
abbrev pub marks_below : List ℕ → ℕ → ℕ → Bool
marks_below words n i = nat_lt i n && marks_index words i

-- a Look that answers n sees what the pass did before
abbrev pub IsSeen : ℕ → Step → Type 0
IsSeen n (Draw t) = t < n
IsSeen n (Look t) = t ≤ n
IsSeen n (Mark i) = Unit {0}
IsSeen n (Peek i b) = Unit {0}

-- the step is one of these
unfoldable pub Among : Step → List Step → Type 0
Among s [] = ⊥
Among s (x ∷ xs) = (x ≡ s) ⊎ Among s xs

-- some line of the record has the step
unfoldable pub AmongLines : Step → List Line → Type 0
AmongLines s [] = ⊥
AmongLines s (x ∷ xs) = Among s x.steps ⊎ AmongLines s xs

abbrev pub States : Type 0
States = State (Unit {0}) (List Line)

abbrev pub Seats : Type 0
Seats = Me (Unit {0}) (List Line)

abbrev pub agree : Phase → ℕ → States → Type 0
agree o width s = Agree o width s.words s.views

-- what each kind of step tells
abbrev pub tells_seat : TableStep (Unit {0}) → Seats → ℕ → Seats → Type 0
tells_seat st me n now = now.0 ≡ []

abbrev pub tells_draw : TableStep (Unit {0}) → Seats → ℕ → Seats → Type 0
tells_draw st me n now = now ≡ (with_step (Draw n) me.0, me.1)

abbrev pub tells_look : TableStep (Unit {0}) → Seats → ℕ → Seats → Type 0
tells_look st me n now = (now ≡ (with_step (Look n) me.0, me.1)) × Each (IsSeen n) (steps_in me.0)

abbrev pub tells_mark : ℕ → TableStep (Unit {0}) → Seats → ℕ → Seats → Type 0
tells_mark i st me n now = now ≡ (with_step (Mark i) me.0, me.1)

abbrev pub tells_peek : ℕ → TableStep (Unit {0}) → Seats → ℕ → Seats → Type 0
tells_peek i st me n now = (now ≡ (with_step (Peek i (bit_of i n)) me.0, me.1)) × (Among (Mark i) (steps_in me.0) → bit_of i n ≡ true)

-- The words at the end, with the joined record of the passes that came back: where one interleaving leads that has their steps,
-- and which, if all came back, has no others
pub record IsEnded (o : Phase) (width : ℕ) (words : List ℕ) (v : List Line) : Type 0 where
  pub trace : List Event
  pub leads : IsInterleaving o trace
  pub count : length words ≡ width + 1
  pub cursor : slice_index words 0 ≡ (run start trace).cursor
  pub marks : (i : ℕ) → i / 64 < width → bit_of i (slice_index words (i / 64 + 1)) ≡ in_marks i (run start trace).marks
  pub recorded : IsRecorded trace v
  pub once : (p : ℕ) → lines_of p v ≤ 1
  pub complete : length v ≡ o.passes → Each (λ e. lines_of e.0 v ≡ 1) trace
