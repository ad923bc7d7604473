-- What a pass is after its steps.
use Rattle.std.proofs.Common.{◌≡◌, ℕ, zero, suc, ◌+◌, ◌-◌, ◌<◌, ◌≤◌, Bool, true, false, true≢false, List, [], ◌∷◌, ◌++◌, length, refl, sym, ap, ◌∙◌, subst, arith, append_assoc, Some}
use Rattle.entities.specs.Population.{IsAlive}
use Rattle.entities.specs.Census.{Census, population}
use Rattle.entities.proofs.Kept.Sets.{lives_is}
use Rattle.entities.proofs.Kept.Stack.{alive_at}
use Rattle.std.proofs.lemmas.Bool.{lt-leb, le-leb}
use Rattle.std.specs.Prelude.{nat_le, slice_get}
use Rattle.std.specs.List.{All}
use Rattle.entities.specs.declared.phase.trace.Step.{Step}
use Rattle.entities.specs.declared.phase.trace.Step.TheVariants.{Draw, Look, Mark, Peek}
use Rattle.entities.specs.declared.phase.trace.Line.{Line}
use Rattle.entities.specs.declared.entity.Entity.{Entity}
use Rattle.entities.specs.declared.phase.board.Board.{Board}
use Rattle.entities.specs.declared.phase.pass.Pass.{Pass}
use Rattle.entities.specs.Phase.Trace.{Phase, Each, AreCalls, creates, looks, marks_new, marks_old, peeks_new, peeks_old, IsGivenBelow, one_if, misses}
use Rattle.entities.specs.Phase.Rule.{line, blank_lines, with_step, number_of, steps_in, IsOne, Seats}
use Rattle.entities.specs.Phase.Plan.{phase_of}
use Rattle.entities.specs.Phase.Board.{IsPassOf, IsNext, steps_of_pass, AreDealt, AreFresh}
use Rattle.atomic_table.specs.Seated.{TableId}
use Rattle.entities.proofs.Phases.Pushes.{AreCalls-push, misses-push}

with_step_one : (s : Step) (v : List Line) → IsOne v → with_step s v ≡ line (number_of v) (steps_in v ++ s ∷ []) ∷ []
with_step_one s v one = ap (with_step s) one

pub next_of : (old new : Pass) (s : Step) → IsOne old.record.me.0 → old.record.me.1 ≡ [] → new.record.table_id ≡ old.record.table_id → new.record.me ≡ (with_step s old.record.me.0, old.record.me.1) → IsNext old new (s ∷ [])
next_of old new s one bare table now = let v = old.record.me.0 in let is : new.record.me.0 ≡ line (number_of v) (steps_in v ++ s ∷ []) ∷ [] = ap (λ (m : Seats). m.0) now ∙ with_step_one s v one in record {
  table = table;
  bare = ap (λ (m : Seats). m.1) now ∙ bare;
  one = subst IsOne (sym is) refl;
  number = ap number_of is;
  steps = ap steps_in is;
}

misses_two : (n : ℕ) (xs : List Step) (a b : Step) → misses n (xs ++ a ∷ b ∷ []) ≡ misses n xs + misses n (a ∷ []) + misses n (b ∷ [])
misses_two n xs a b = ap (misses n) (sym (append_assoc xs (a ∷ []) (b ∷ []))) ∙ (misses-push n (xs ++ a ∷ []) b ∙ ap (λ (k : ℕ). k + misses n (b ∷ [])) (misses-push n xs a))

calls_two : (o : Phase) (xs : List Step) (a b : Step) → AreCalls o (xs ++ a ∷ b ∷ []) → AreCalls o ((xs ++ a ∷ []) ++ b ∷ [])
calls_two o xs a b r = subst (AreCalls o) (sym (append_assoc xs (a ∷ []) (b ∷ []))) r

-- the lists of calls after one more call
pub calls_draw : (o : Phase) (xs : List Step) (t : ℕ) → AreCalls o xs → misses (length o.reserve) xs ≡ 0 → AreCalls o (xs ++ Draw t ∷ [])
calls_draw o xs t r none = AreCalls-push o xs (creates t) r tt (let e = misses-push (length o.reserve) xs (Draw t) in let b = at_most_one (nat_le (length o.reserve) t) in omega arith)
  where
    at_most_one : (b : Bool) → one_if b ≤ 1
    at_most_one b = elim b as (λ (x : Bool). one_if x ≤ 1) [ true ↦ omega arith | false ↦ omega arith ]

pub calls_look : (o : Phase) (xs : List Step) (t : ℕ) → AreCalls o xs → AreCalls o (xs ++ Look t ∷ [])
calls_look o xs t r = AreCalls-push o xs (looks t) r tt (let e = misses-push (length o.reserve) xs (Look t) in let b = r.spent in omega arith)

pub calls_mark_new : (o : Phase) (xs : List Step) (e : Entity) (n : ℕ) → AreCalls o xs → IsGivenBelow o.reserve e n → AreCalls o ((xs ++ Look n ∷ []) ++ Mark e.0 ∷ [])
calls_mark_new o xs e n r g = calls_two o xs (Look n) (Mark e.0) (AreCalls-push o xs (marks_new e n) r g (let k = misses_two (length o.reserve) xs (Look n) (Mark e.0) in let b = r.spent in omega arith))

pub calls_mark_old : (o : Phase) (xs : List Step) (e : Entity) → AreCalls o xs → IsAlive o.opening e → AreCalls o (xs ++ Mark e.0 ∷ [])
calls_mark_old o xs e r g = AreCalls-push o xs (marks_old e) r g (let k = misses-push (length o.reserve) xs (Mark e.0) in let b = r.spent in omega arith)

pub calls_peek_new : (o : Phase) (xs : List Step) (e : Entity) (n : ℕ) (b : Bool) → AreCalls o xs → IsGivenBelow o.reserve e n → AreCalls o ((xs ++ Look n ∷ []) ++ Peek e.0 b ∷ [])
calls_peek_new o xs e n b r g = calls_two o xs (Look n) (Peek e.0 b) (AreCalls-push o xs (peeks_new e n b) r g (let k = misses_two (length o.reserve) xs (Look n) (Peek e.0 b) in let m = r.spent in omega arith))

pub calls_peek_old : (o : Phase) (xs : List Step) (e : Entity) (b : Bool) → AreCalls o xs → IsAlive o.opening e → AreCalls o (xs ++ Peek e.0 b ∷ [])
calls_peek_old o xs e b r g = AreCalls-push o xs (peeks_old e b) r g (let k = misses-push (length o.reserve) xs (Peek e.0 b) in let m = r.spent in omega arith)

-- a ticket within the reserve is no miss
pub no_miss : (n : ℕ) (xs : List Step) (t : ℕ) → t < n → misses n xs ≡ 0 → misses n (xs ++ Draw t ∷ []) ≡ 0
no_miss n xs t h none = let e = misses-push n xs (Draw t) in let z = ap one_if (lt-leb n t h) in omega arith

-- a pass of the phase after a step
pub still_pass : (board : Board) (old new : Pass) (added : List Step) → IsPassOf board old → IsNext old new added → AreCalls (phase_of board.plan) (steps_of_pass old ++ added)
    → (new.spent ≡ false → misses (length board.plan.reserve.items) (steps_of_pass old ++ added) ≡ 0) → (new.spent ≡ true → 0 < misses (length board.plan.reserve.items) (steps_of_pass old ++ added)) → IsPassOf board new
still_pass board old new added was next calls fresh used = record {
  table = next.table ∙ was.table;
  bare = next.bare;
  one = next.one;
  calls = subst (AreCalls (phase_of board.plan)) (sym next.steps) calls;
  fresh = λ h. ap (misses (length board.plan.reserve.items)) next.steps ∙ fresh h;
  used = λ h. let e = ap (misses (length board.plan.reserve.items)) next.steps in omega (arith, e, used h);
}

misses_more : (n : ℕ) (xs ys : List Step) → misses n xs ≤ misses n (xs ++ ys)
misses_more n [] ys = omega arith
misses_more n (Draw t ∷ xs) ys = let r = misses_more n xs ys in omega arith
misses_more n (Look t ∷ xs) ys = misses_more n xs ys
misses_more n (Mark t ∷ xs) ys = misses_more n xs ys
misses_more n (Peek t b ∷ xs) ys = misses_more n xs ys

-- two steps are one list of steps
pub next_two : (old mid new : Pass) (a b : List Step) → IsNext old mid a → IsNext mid new b → IsNext old new (a ++ b)
next_two old mid new a b r s = record {
  table = s.table ∙ r.table;
  bare = s.bare;
  one = s.one;
  number = s.number ∙ r.number;
  steps = s.steps ∙ (ap (λ (k : List Step). k ++ b) r.steps ∙ append_assoc (steps_of_pass old) a b);
}

pub next_spent : (old new : Pass) (b : Bool) (added : List Step) → IsNext old new added → IsNext old (record new { spent = b }) added
next_spent old new b added r = record { table = r.table; bare = r.bare; one = r.one; number = r.number; steps = r.steps }

-- a pass after a Draw
pub drew : (board : Board) (old new : Pass) (t : ℕ) → IsPassOf board old → old.spent ≡ false → IsNext old new (Draw t ∷ []) → (new.spent ≡ false → t < length board.plan.reserve.items) → (new.spent ≡ true → length board.plan.reserve.items ≤ t) → IsPassOf board new
drew board old new t was unspent next low high = still_pass board old new (Draw t ∷ []) was next (calls_draw (phase_of board.plan) (steps_of_pass old) t was.calls (was.fresh unspent))
    (λ h. no_miss (length board.plan.reserve.items) (steps_of_pass old) t (low h) (was.fresh unspent))
    (λ h. let e = misses-push (length board.plan.reserve.items) (steps_of_pass old) (Draw t) in let z = ap one_if (le-leb (length board.plan.reserve.items) t (high h)) in omega arith)

-- a pass after a Look
pub looked_at : (board : Board) (old new : Pass) (t : ℕ) → IsPassOf board old → IsNext old new (Look t ∷ []) → new.spent ≡ old.spent → IsPassOf board new
looked_at board old new t was next same = still_pass board old new (Look t ∷ []) was next (calls_look (phase_of board.plan) (steps_of_pass old) t was.calls)
    (λ h. misses-push (length board.plan.reserve.items) (steps_of_pass old) (Look t) ∙ (let e = was.fresh (sym same ∙ h) in omega arith))
    (λ h. let f = was.used (sym same ∙ h) in let g = misses_more (length board.plan.reserve.items) (steps_of_pass old) (Look t ∷ []) in omega arith)

-- a pass after the Mark that follows a Look
pub mark_calls : (board : Board) (old mid : Pass) (e : Entity) (n k : ℕ) → IsPassOf board old → IsNext old mid (Look n ∷ []) → slice_get board.plan.reserve.items k ≡ Some e → k < n
    → AreCalls (phase_of board.plan) (steps_of_pass mid ++ Mark e.0 ∷ [])
mark_calls board old mid e n k was next at low = subst (λ (xs : List Step). AreCalls (phase_of board.plan) (xs ++ Mark e.0 ∷ [])) (sym next.steps) (calls_mark_new (phase_of board.plan) (steps_of_pass old) e n was.calls (k, at, low))

pub marked_new : (board : Board) (old mid new : Pass) (e : Entity) (n k : ℕ) → IsPassOf board old → IsNext old mid (Look n ∷ []) → IsNext mid new (Mark e.0 ∷ []) → mid.spent ≡ old.spent → new.spent ≡ mid.spent
    → slice_get board.plan.reserve.items k ≡ Some e → k < n → IsPassOf board new
marked_new board old mid new e n k was one two s t at low = still_pass board old new (Look n ∷ Mark e.0 ∷ []) was (next_two old mid new (Look n ∷ []) (Mark e.0 ∷ []) one two)
    (AreCalls-push (phase_of board.plan) (steps_of_pass old) (marks_new e n) was.calls (k, at, low) (let m = misses_two (length board.plan.reserve.items) (steps_of_pass old) (Look n) (Mark e.0) in let c = was.calls in let b = c.spent in omega arith))
    (λ h. let f = was.fresh (sym s ∙ (sym t ∙ h)) in misses_two (length board.plan.reserve.items) (steps_of_pass old) (Look n) (Mark e.0) ∙ omega arith)
    (λ h. let f = was.used (sym s ∙ (sym t ∙ h)) in let g = misses_more (length board.plan.reserve.items) (steps_of_pass old) (Look n ∷ Mark e.0 ∷ []) in omega arith)

pub marked_old : (board : Board) (old new : Pass) (e : Entity) → IsPassOf board old → IsNext old new (Mark e.0 ∷ []) → new.spent ≡ old.spent → IsAlive (population board.plan.opening.value) e → IsPassOf board new
marked_old board old new e was next s live = still_pass board old new (Mark e.0 ∷ []) was next (calls_mark_old (phase_of board.plan) (steps_of_pass old) e was.calls live)
    (λ h. let f = was.fresh (sym s ∙ h) in misses-push (length board.plan.reserve.items) (steps_of_pass old) (Mark e.0) ∙ omega arith)
    (λ h. let f = was.used (sym s ∙ h) in let g = misses_more (length board.plan.reserve.items) (steps_of_pass old) (Mark e.0 ∷ []) in omega arith)

-- a pass after the Peek that follows a Look
pub peeked_new : (board : Board) (old mid new : Pass) (e : Entity) (n k : ℕ) (b : Bool) → IsPassOf board old → IsNext old mid (Look n ∷ []) → IsNext mid new (Peek e.0 b ∷ []) → mid.spent ≡ old.spent → new.spent ≡ mid.spent
    → slice_get board.plan.reserve.items k ≡ Some e → k < n → IsPassOf board new
peeked_new board old mid new e n k b was one two s t at low = still_pass board old new (Look n ∷ Peek e.0 b ∷ []) was (next_two old mid new (Look n ∷ []) (Peek e.0 b ∷ []) one two)
    (AreCalls-push (phase_of board.plan) (steps_of_pass old) (peeks_new e n b) was.calls (k, at, low) (let m = misses_two (length board.plan.reserve.items) (steps_of_pass old) (Look n) (Peek e.0 b) in let c = was.calls in let z = c.spent in omega arith))
    (λ h. let f = was.fresh (sym s ∙ (sym t ∙ h)) in misses_two (length board.plan.reserve.items) (steps_of_pass old) (Look n) (Peek e.0 b) ∙ omega arith)
    (λ h. let f = was.used (sym s ∙ (sym t ∙ h)) in let g = misses_more (length board.plan.reserve.items) (steps_of_pass old) (Look n ∷ Peek e.0 b ∷ []) in omega arith)

pub peeked_old : (board : Board) (old new : Pass) (e : Entity) (b : Bool) → IsPassOf board old → IsNext old new (Peek e.0 b ∷ []) → new.spent ≡ old.spent → IsAlive (population board.plan.opening.value) e → IsPassOf board new
peeked_old board old new e b was next s live = still_pass board old new (Peek e.0 b ∷ []) was next (calls_peek_old (phase_of board.plan) (steps_of_pass old) e b was.calls live)
    (λ h. let f = was.fresh (sym s ∙ h) in misses-push (length board.plan.reserve.items) (steps_of_pass old) (Peek e.0 b) ∙ omega arith)
    (λ h. let f = was.used (sym s ∙ h) in let g = misses_more (length board.plan.reserve.items) (steps_of_pass old) (Peek e.0 b ∷ []) in omega arith)

-- one that is alive is of an index that was born
pub alive_within : (c : Census) (e : Entity) → IsAlive (population c) e → e.0 < length c.generations
alive_within c e alive = (alive_at c.generations e.0 (sym (lives_is c e.0) ∙ alive.0)).2

-- passes as they are dealt
pub dealt_push : (z : TableId) (k n : ℕ) (ps : List Pass) (x : Pass) → AreDealt z k ps → n ≡ k + length ps → x.record.table_id ≡ z → x.record.me ≡ (line n [] ∷ [], []) → x.spent ≡ false → AreDealt z k (ps ++ x ∷ [])
dealt_push z k n [] x h e t m s = (t, m ∙ ap (λ (j : ℕ). (line j [] ∷ [], [])) (let q : n ≡ k = omega arith in q), s, tt)
dealt_push z k n (y ∷ ys) x h e t m s = (h.0, h.1, h.2, dealt_push z (k + 1) n ys x h.3 (omega arith) t m s)

pub fresh_of : (board : Board) (k : ℕ) (ps : List Pass) → AreDealt board.words.shared.table_id k ps → AreFresh board k ps
fresh_of board k [] h = tt
fresh_of board k (x ∷ xs) h = let is : x.record.me.0 ≡ line k [] ∷ [] = ap (λ (m : Seats). m.0) h.1 in let none : steps_of_pass x ≡ [] = ap steps_in is in (
  record {
    table = h.0;
    bare = ap (λ (m : Seats). m.1) h.1;
    one = subst IsOne (sym is) refl;
    calls = subst (AreCalls (phase_of board.plan)) (sym none) (record { calls = []; same = refl; legal = tt; spent = omega arith });
    fresh = λ _. ap (misses (length board.plan.reserve.items)) none;
    used = λ s. absurd (true≢false (sym s ∙ h.2));
  },
  ap number_of is,
  none,
  h.2,
  fresh_of board (k + 1) xs h.3,
)

pub blank_more : (k n count : ℕ) → n < count → k ≡ n → blank_lines k (count - n) ≡ line n [] ∷ blank_lines (n + 1) (count - (n + 1))
blank_more k n count h e = ap (λ (j : ℕ). blank_lines j (count - n)) e ∙ ap (blank_lines n) (let q : count - n ≡ suc (count - (n + 1)) = omega arith in q)

pub fresh_each : (board : Board) (k : ℕ) (ps : List Pass) → AreFresh board k ps → Each (IsPassOf board) ps
fresh_each board k [] h = tt
fresh_each board k (x ∷ xs) h = (h.0, fresh_each board (k + 1) xs h.4)

pub all_from_each : {X : Type 0} (P : X → Type 0) (xs : List X) → Each P xs → All P xs
all_from_each P [] h k d lt = absurd (omega arith)
all_from_each P (x ∷ xs) h zero d lt = h.0
all_from_each P (x ∷ xs) h (suc k) d lt = all_from_each P xs h.1 k d (omega arith)
