-- The words and the records at the end of a phase.
use Rattle.std.proofs.Common.{◌≡◌, ℕ, zero, suc, ◌<◌, List, [], ◌∷◌, ◌++◌, length, get_or, refl, sym, ap, ◌∙◌, subst, append_assoc}
use Rattle.std.proofs.lemmas.Grind.{flat_map-append}
use Rattle.std.proofs.lemmas.List.{append-nil}
use mathlib.Core.Option.{some, some-injective, some-ne-none}
use lib.ListN.{get_elem?}
use Rattle.atomic_table.specs.Table.{Final, Seen}
use Rattle.entities.specs.declared.phase.plan.Plan.{Plan}
use Rattle.entities.specs.declared.phase.board.Board.{Board}
use Rattle.entities.specs.declared.phase.trace.Line.{Line}
use Rattle.entities.specs.declared.phase.pass.Pass.{Pass}
use Rattle.entities.specs.Phase.Trace.{Each, Phase}
use Rattle.entities.specs.Phase.Rule.{agree, IsEnded, States}
use Rattle.entities.specs.Phase.Plan.{phase_of}
use Rattle.entities.specs.Phase.Board.{IsPassOf, IsHome, record_of}
use Rattle.std.proofs.Common.{Bool, ◌≤◌, ◌*◌, arith, min}
use Rattle.std.specs.Prelude.{slice_index}
use Rattle.entities.specs.Phase.Trace.{run, start, in_marks}
use Rattle.std.proofs.Common.{Bool, true, false, ◌||◌, eqb, eq-eqb, ◌*◌, ⊎_elim, take, min, arith, inl, inr}
use Rattle.std.specs.Prelude.{slice_index}
use Rattle.std.specs.List.{All}
use Rattle.hibits.specs.Counts.{count_below}
use Rattle.std.proofs.lemmas.Bool.{cases_lt, lt-ltb, le-ltb, false_from_ne_true}
use Rattle.std.proofs.lemmas.List.{get_or-take, length-take}
use Rattle.std.proofs.lemmas.List.Folds.{list_any_at}
use Rattle.entities.specs.declared.entity.Entity.{Entity}
use Rattle.entities.specs.Population.{Population, IsAlive, lives}
use Rattle.entities.specs.Census.{population}
use Rattle.entities.specs.Phase.Trace.{IsOfAlive, IsGivenBelow, run, start, in_marks}
use Rattle.entities.specs.Phase.Reserve.{with_births, with_marks}
use Rattle.entities.specs.declared.phase.trace.Step.{Step}
use Rattle.entities.specs.declared.phase.trace.Step.TheVariants.{Draw}
use Rattle.entities.specs.Phase.Board.{steps_of_pass}
use Rattle.entities.specs.Phase.Rule.{marks_index, marks_below, Among, AmongLines}
use Rattle.entities.specs.Phase.Calls.{IsClosed}
use Rattle.entities.proofs.Phases.Sound.{marked_alive, drawn_below, mark_told, each_ticket, each_mark, miss_draw}
use Rattle.entities.proofs.Phases.Passes.{alive_within}
use Rattle.entities.proofs.Phases.Marks.{same_marks, count_same}
use Rattle.entities.proofs.Phases.Reserve.{slice_get_within, slice_get_is}
use Rattle.entities.proofs.Phases.Keeps.{ends}

pub read_word : (l : List ℕ) (i a : ℕ) → get_elem? l i ≡ some a → get_or l i 0 ≡ a
read_word [] i a e = absurd (some-ne-none a (sym e))
read_word (x ∷ xs) zero a e = some-injective x a e
read_word (x ∷ xs) (suc i) a e = read_word xs i a e

pub homes : (board : Board) (ps : List Pass) → All (IsPassOf board) ps → Each (IsHome board.words.shared.table_id) ps
homes board [] h = tt
homes board (x ∷ xs) h = let r = h zero x (omega arith) in ((r.table, r.bare), homes board xs (λ k d lt. h (suc k) d (omega arith)))

pub each_back : {X : Type 0} (P : X → Type 0) (xs ys : List X) → Each P (xs ++ ys) → Each P xs × Each P ys
each_back P [] ys h = (tt, h)
each_back P (x ∷ xs) ys h = let r = each_back P xs ys h.1 in ((h.0, r.0), r.1)

-- one pass fewer to join
pub joined_one : (ps : List Pass) (x : Pass) (v whole : List Line) → record_of (ps ++ x ∷ []) ++ v ≡ whole → record_of ps ++ (x.record.me.0 ++ v) ≡ whole
joined_one ps x v whole h = sym (append_assoc (record_of ps) x.record.me.0 v)
    ∙ (ap (λ (k : List Line). record_of ps ++ k ++ v) (sym (append-nil x.record.me.0)) ∙ (ap (λ (k : List Line). k ++ v) (sym (flat_map-append (λ (p : Pass). p.record.me.0) ps (x ∷ []))) ∙ h))

pub ended : (plan key : Plan) (words : List ℕ) (slots : List (Unit {0})) (id : ℕ) (v w : List Line) → plan ≡ key → v ≡ w → Final (Seen (agree (phase_of key) key.width) id v) words slots → IsEnded (phase_of plan) plan.width words w
ended plan key words slots id v w same is final = let s : States = final.0 in let seen = final.1 in
    subst (λ (z : Plan × List ℕ × List Line). IsEnded (phase_of z.0) (z.0).width z.1 z.2) (λ j. (sym same j, final.2 j, is j)) (ends (phase_of key) key.width s.words s.views id v seen.0 seen.1)

-- what is marked in a phase lives once the births are taken up
pub alive_then : (o : Phase) (births cursor i : ℕ) → births ≡ min cursor (length o.reserve) → IsOfAlive o cursor i → lives (with_births (take births o.reserve) o.opening) i ≡ true
alive_then o births cursor i is h = ⊎_elim
    (λ (was : (e : Entity) × IsAlive o.opening e × (e.0 ≡ i)). subst (λ (j : ℕ). lives (with_births (take births o.reserve) o.opening) j ≡ true) was.2 (was_so (o.opening.merged was.0.0) (o.opening.pending was.0.0) _ was.1.0))
    (λ (new : (e : Entity) × IsGivenBelow o.reserve e cursor × (e.0 ≡ i)).
    let e = new.0 in let k = new.1.0 in let d : Entity = e in
    let low : k < length o.reserve = slice_get_within o.reserve k e new.1.1 in
    let at : get_or (take births o.reserve) k d ≡ e = get_or-take births o.reserve k d (omega (arith, low, new.1.2)) ∙ slice_get_is o.reserve k e d new.1.1 in
    let size = length-take births o.reserve in
    born_so (o.opening.merged i) (o.opening.pending i) _ (list_any_at (λ x. eqb x.0 i) (take births o.reserve) k d (omega (arith, size, low, new.1.2)) (eq-eqb _ _ (ap (λ (x : Entity). x.0) at ∙ new.2))))
    h
  where
    was_so : (m r b : Bool) → (m || r) ≡ true → (m || (r || b)) ≡ true
    was_so true r b e = refl
    was_so false true b e = refl
    was_so false false b e = cc

    born_so : (m r b : Bool) → b ≡ true → (m || (r || b)) ≡ true
    born_so true r b e = refl
    born_so false true b e = refl
    born_so false false b e = e

-- and is of an index within the words
pub within_words : (board : Board) (cursor i : ℕ) → IsOfAlive (phase_of board.plan) cursor i → i < 64 * board.plan.width
within_words board cursor i h = ⊎_elim
    (λ (was : (e : Entity) × IsAlive (phase_of board.plan).opening e × (e.0 ≡ i)). let w = alive_within board.plan.opening.value was.0 was.1 in let b : length board.plan.opening.value.generations ≤ 64 * board.plan.width = board.born_within in omega (arith, was.2, w))
    (λ (new : (e : Entity) × IsGivenBelow board.plan.reserve.items e cursor × (e.0 ≡ i)). let b = board.reserve_within new.1.0 new.0 new.1.1 in omega (arith, b, new.2))
    h

pub closes : (board : Board) (words : List ℕ) (v : List Line) (before mid after : Population) (births marks : ℕ) → IsEnded (phase_of board.plan) board.plan.width words v → before ≡ population board.plan.opening.value
    → births ≡ min (slice_index words 0) (length board.plan.reserve.items) → mid ≡ with_births (take births board.plan.reserve.items) before → after ≡ with_marks (marks_below words (64 * board.plan.width)) mid
    → marks ≡ count_below (marks_index words) (64 * board.plan.width) → IsClosed (phase_of board.plan) v before after births marks
closes board words v before mid after births marks e same born m a count =
    let o = phase_of board.plan in
    let leads = e.leads in
    let bound : (i : ℕ) → in_marks i (run start e.trace).marks ≡ true → i < 64 * board.plan.width = λ i h. within_words board (run start e.trace).cursor i (marked_alive o e.trace leads i h) in
    let bits : (i : ℕ) → i < 64 * board.plan.width → marks_index words i ≡ in_marks i (run start e.trace).marks = λ i lt. e.marks i (omega (arith, lt)) in
    let all : (i : ℕ) → marks_below words (64 * board.plan.width) i ≡ in_marks i (run start e.trace).marks = λ i. elim (cases_lt i (64 * board.plan.width)) [
      | inl lt ↦ rw (lt-ltb i (64 * board.plan.width) lt) (bits i lt)
      | inr past ↦ rw (le-ltb i (64 * board.plan.width) past) (sym (false_from_ne_true (in_marks i (run start e.trace).marks) (λ h. let b = bound i h in omega (arith, b, past))))
    ] in
    record {
      trace = e.trace;
      leads = e.leads;
      recorded = e.recorded;
      once = e.once;
      complete = e.complete;
      given_are_born = drawn_below v e.trace leads.right e.recorded;
      told_are_marked = mark_told v e.trace e.recorded;
      births_were_given = λ full t lt. each_ticket v e.trace leads.right (e.complete full) e.recorded t (omega (arith, lt, born, e.cursor));
      marks_were_told = λ full. each_mark v e.trace (e.complete full) e.recorded;
      births_are = born ∙ ap (λ (k : ℕ). min k (length board.plan.reserve.items)) e.cursor;
      leaves = a ∙ same_marks mid (marks_below words (64 * board.plan.width)) (λ i. in_marks i (run start e.trace).marks) all ∙ ap (with_marks (λ i. in_marks i (run start e.trace).marks)) m;
      marks_are = (64 * board.plan.width, bound, count ∙ count_same (marks_index words) (λ i. in_marks i (run start e.trace).marks) (64 * board.plan.width) bits);
    }

-- a step of a pass is a step of the joined record
left_lines : (s : Step) (v w : List Line) → AmongLines s v → AmongLines s (v ++ w)
unfolding AmongLines
left_lines s [] w h = absurd h
left_lines s (y ∷ ys) w h = ⊎_elim (λ (here : Among s y.steps). inl here) (λ (later : AmongLines s ys). inr (left_lines s ys w later)) h

right_lines : (s : Step) (v w : List Line) → AmongLines s w → AmongLines s (v ++ w)
unfolding AmongLines
right_lines s [] w h = h
right_lines s (y ∷ ys) w h = inr (right_lines s ys w h)

pub pass_lines : (s : Step) (ps : List Pass) (k : ℕ) (d : Pass) → k < length ps → AmongLines s (get_or ps k d).record.me.0 → AmongLines s (record_of ps)
pass_lines s [] k d lt h = absurd (omega arith)
pass_lines s (x ∷ xs) zero d lt h = left_lines s x.record.me.0 (record_of xs) h
pass_lines s (x ∷ xs) (suc k) d lt h = right_lines s x.record.me.0 (record_of xs) (pass_lines s xs k d (omega arith) h)

-- a spent pass tells that the reserve is used up
pub spent_all : (board : Board) (words : List ℕ) (ps : List Pass) (births k : ℕ) (d : Pass) → IsEnded (phase_of board.plan) board.plan.width words (record_of ps) → births ≡ min (slice_index words 0) (length board.plan.reserve.items)
    → All (IsPassOf board) ps → k < length ps → (get_or ps k d).spent ≡ true → births ≡ length board.plan.reserve.items
unfolding AmongLines
spent_all board words ps births k d e born all lt spent =
    let pass = all k d lt in
    let m = miss_draw (length board.plan.reserve.items) (steps_of_pass (get_or ps k d)) (pass.used spent) in
    let here : AmongLines (Draw m.0) (get_or ps k d).record.me.0 = subst (AmongLines (Draw m.0)) (sym pass.one) (inl m.2) in
    let leads = e.leads in
    let low = drawn_below (record_of ps) e.trace leads.right e.recorded m.0 (pass_lines (Draw m.0) ps k d lt here) in
    omega (arith, low, m.1, born, e.cursor)
