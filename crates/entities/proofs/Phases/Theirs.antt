-- Where all passes came back, nothing is born or marked but by them.
use Rattle.std.proofs.Common.{◌≡◌, ◌⊎◌, ⊎_elim, inl, inr, ℕ, zero, suc, ◌+◌, ◌<◌, ◌≤◌, Bool, true, false, ◌||◌, cond, eqb, List, [], ◌∷◌, ◌++◌, length, get_or, take, refl, sym, ap, ◌∙◌, subst, arith, eq-eqb, eqb-true, length-append, Some, Option}
use Rattle.std.proofs.Math.Bool.{or-true}
use Rattle.std.specs.Prelude.{slice_get, flat_map}
use Rattle.std.specs.Option.{option_to_list}
use Rattle.std.specs.List.{All, Any}
use Rattle.std.proofs.lemmas.Bool.{false≢true}
use Rattle.std.proofs.lemmas.List.Folds.{list_any-append}
use Rattle.entities.specs.declared.entity.Entity.{Entity}
use Rattle.entities.specs.declared.phase.board.Board.{Board}
use Rattle.entities.specs.declared.phase.pass.Pass.{Pass}
use Rattle.entities.specs.declared.phase.trace.Line.{Line}
use Rattle.entities.specs.declared.phase.trace.Step.{Step}
use Rattle.entities.specs.declared.phase.trace.Step.TheVariants.{Draw, Look, Mark, Peek}
use Rattle.entities.specs.Population.{Population}
use Rattle.entities.specs.Deaths.{has_index}
use Rattle.entities.specs.Phase.Trace.{Phase, given_to, in_marks, start, run}
use Rattle.entities.specs.Phase.Rule.{Among, AmongLines, IsOne}
use Rattle.entities.specs.Phase.Board.{IsPassOf, record_of, steps_of_pass}
use Rattle.entities.specs.Phase.Plan.{phase_of}
use Rattle.entities.specs.Phase.Calls.{IsClosed}
use Rattle.entities.specs.Phase.Given.{given_of, marks_of, marks_of_step, AreAllTheirs}

-- each pass that came back has one line
record_length : (ps : List Pass) → ((k : ℕ) (d : Pass) → k < length ps → IsOne (get_or ps k d).record.me.0) → length (record_of ps) ≡ length ps
record_length [] one = refl
record_length (x ∷ xs) one =
    let r = record_length xs (λ k d lt. one (suc k) d (omega (arith, lt))) in
    let here = ap (λ (v : List Line). length v) (one zero x (omega arith)) in
    omega (arith, r, here, length-append x.record.me.0 (record_of xs))

split_lines : (s : Step) (v w : List Line) → AmongLines s (v ++ w) → AmongLines s v ⊎ AmongLines s w
unfolding AmongLines
split_lines s [] w h = inr h
split_lines s (x ∷ xs) w h = ⊎_elim
    (λ (here : Among s x.steps). inl (inl here))
    (λ (later : AmongLines s (xs ++ w)). ⊎_elim (λ (a : AmongLines s xs). inl (inr a)) (λ (b : AmongLines s w). inr b) (split_lines s xs w later))
    h

-- a step of the record is of a pass
some_pass : (s : Step) (ps : List Pass) → ((k : ℕ) (d : Pass) → k < length ps → IsOne (get_or ps k d).record.me.0) → AmongLines s (record_of ps) → Any (λ pass. Among s (steps_of_pass pass)) ps
unfolding AmongLines
some_pass s [] one h = absurd h
some_pass s (x ∷ xs) one h = ⊎_elim
    (λ (here : AmongLines s x.record.me.0). (zero, x, omega arith, refl, ⊎_elim (λ (a : Among s (steps_of_pass x)). a) (λ (no : ⊥). absurd no) (subst (AmongLines s) (one zero x (omega arith)) here)))
    (λ (later : AmongLines s (record_of xs)). let r = some_pass s xs (λ k d lt. one (suc k) d (omega (arith, lt))) later in (suc r.0, r.1, omega (arith, r.2), r.3, r.4))
    (split_lines s x.record.me.0 (record_of xs) h)

any_map : (P Q : Pass → Type 0) (ps : List Pass) → ((x : Pass) → P x → Q x) → Any P ps → Any Q ps
any_map P Q ps f h = (h.0, h.1, h.2, h.3, f h.1 h.4)

-- what a ticket gives is given
drawn_given : (es : List Entity) (t : ℕ) (e : Entity) (ss : List Step) → slice_get es t ≡ Some e → Among (Draw t) ss → has_index (flat_map (given_to es) ss) e.0 ≡ true
unfolding Among
drawn_given es t e [] at h = absurd h
drawn_given es t e (Draw n ∷ ss) at h = list_any-append (λ (x : Entity). eqb x.0 e.0) (option_to_list (slice_get es n)) (flat_map (given_to es) ss) ∙ ⊎_elim
    (λ (here : Draw n ≡ Draw t). let same : n ≡ t = cc in rw (same, at, eq-eqb e.0 e.0 refl) refl)
    (λ (later : Among (Draw t) ss). rw (drawn_given es t e ss at later) (or-true (has_index (option_to_list (slice_get es n)) e.0)))
    h
drawn_given es t e (Look n ∷ ss) at h = ⊎_elim (λ (no : Look n ≡ Draw t). absurd (cc)) (λ (later : Among (Draw t) ss). drawn_given es t e ss at later) h
drawn_given es t e (Mark i ∷ ss) at h = ⊎_elim (λ (no : Mark i ≡ Draw t). absurd (cc)) (λ (later : Among (Draw t) ss). drawn_given es t e ss at later) h
drawn_given es t e (Peek i b ∷ ss) at h = ⊎_elim (λ (no : Peek i b ≡ Draw t). absurd (cc)) (λ (later : Among (Draw t) ss). drawn_given es t e ss at later) h

made_marked : (i : ℕ) (ss : List Step) → Among (Mark i) ss → in_marks i (flat_map marks_of_step ss) ≡ true
unfolding Among
made_marked i [] h = absurd h
made_marked i (Mark j ∷ ss) h = ⊎_elim
    (λ (here : Mark j ≡ Mark i). let same : i ≡ j = cc in rw (eq-eqb i j same) refl)
    (λ (later : Among (Mark i) ss). rw (made_marked i ss later) (either (eqb i j)))
    h
  where
    either : (b : Bool) → cond b true true ≡ true
    either true = refl
    either false = refl
made_marked i (Draw n ∷ ss) h = ⊎_elim (λ (no : Draw n ≡ Mark i). absurd (cc)) (λ (later : Among (Mark i) ss). made_marked i ss later) h
made_marked i (Look n ∷ ss) h = ⊎_elim (λ (no : Look n ≡ Mark i). absurd (cc)) (λ (later : Among (Mark i) ss). made_marked i ss later) h
made_marked i (Peek j b ∷ ss) h = ⊎_elim (λ (no : Peek j b ≡ Mark i). absurd (cc)) (λ (later : Among (Mark i) ss). made_marked i ss later) h

-- one of the first n of a reserve has a place there
place_of : (es : List Entity) (n i : ℕ) → has_index (take n es) i ≡ true → (t : ℕ) × (e : Entity) × (t < n) × (slice_get es t ≡ Some e) × (e.0 ≡ i)
place_of [] zero i h = absurd (false≢true h)
place_of [] (suc n) i h = absurd (false≢true h)
place_of (x ∷ xs) zero i h = absurd (false≢true h)
place_of (x ∷ xs) (suc n) i h = found (λ k. place_of xs n i k) (eqb x.0 i) refl h
  where
    found : (has_index (take n xs) i ≡ true → (t : ℕ) × (e : Entity) × (t < n) × (slice_get xs t ≡ Some e) × (e.0 ≡ i)) → (b : Bool) → eqb x.0 i ≡ b → (b || has_index (take n xs) i) ≡ true → (t : ℕ) × (e : Entity) × (t < suc n) × (slice_get (x ∷ xs) t ≡ Some e) × (e.0 ≡ i)
    found rest true is k = (zero, x, omega arith, refl, eqb-true x.0 i is)
    found rest false is k = let r = rest k in (suc r.0, r.1, omega (arith, r.2), r.3, r.4)

either_of : (a b : Bool) → (a || b) ≡ true → (a ≡ true) ⊎ (b ≡ true)
either_of true b h = inl refl
either_of false b h = inr h

pub all_theirs : (board : Board) (before after : Population) (births marks : ℕ) (ps : List Pass) → All (IsPassOf board) ps → IsClosed (phase_of board.plan) (record_of ps) before after births marks → length ps ≡ board.plan.passes → AreAllTheirs (phase_of board.plan) ps before after
unfolding given_of marks_of
all_theirs board before after births marks ps all closed size =
    let o = phase_of board.plan in
    let one : (k : ℕ) (d : Pass) → k < length ps → IsOne (get_or ps k d).record.me.0 = λ k d lt. let pass = all k d lt in pass.one in
    let full : length (record_of ps) ≡ o.passes = record_length ps one ∙ size in
    record {
      pending = λ i h. ⊎_elim
          (λ (was : before.pending i ≡ true). inl was)
          (λ (new : has_index (take births o.reserve) i ≡ true).
          let at = place_of o.reserve births i new in
          let drawn = some_pass (Draw at.0) ps one (closed.births_were_given full at.0 at.2) in
          inr (subst (λ (n : ℕ). Any (λ pass. has_index (given_of o pass) n ≡ true) ps) at.4
          (any_map (λ pass. Among (Draw at.0) (steps_of_pass pass)) (λ pass. has_index (given_of o pass) (at.1).0 ≡ true) ps (λ pass made. drawn_given o.reserve at.0 at.1 (steps_of_pass pass) at.3 made) drawn)))
          (either_of (before.pending i) _ (sym (ap (λ (q : Population). q.pending i) closed.leaves) ∙ h));
      marked = λ i h. ⊎_elim
          (λ (was : before.marked i ≡ true). inl was)
          (λ (new : in_marks i (run start closed.trace).marks ≡ true).
          inr (any_map (λ pass. Among (Mark i) (steps_of_pass pass)) (λ pass. in_marks i (marks_of pass) ≡ true) ps (λ pass made. made_marked i (steps_of_pass pass) made) (some_pass (Mark i) ps one (closed.marks_were_told full i new))))
          (either_of (before.marked i) _ (sym (ap (λ (q : Population). q.marked i) closed.leaves) ∙ h));
    }
