-- A phase that is closed as it was opened changes nothing.
use Rattle.std.proofs.Common.{◌≡◌, ℕ, zero, suc, ◌+◌, ◌<◌, Bool, true, false, ◌||◌, List, [], ◌∷◌, ◌++◌, length, take, inl, inr, refl, ap, ◌∙◌, subst, arith}
use Rattle.std.proofs.Math.Bool.{or-false}
use Rattle.entities.specs.declared.phase.board.Board.{Board}
use Rattle.entities.specs.declared.phase.pass.Pass.{Pass}
use Rattle.entities.specs.declared.phase.trace.Line.{Line}
use Rattle.entities.specs.declared.phase.trace.Step.{Step}
use Rattle.entities.specs.declared.phase.trace.Step.TheVariants.{Draw, Mark}
use Rattle.entities.specs.Population.{Population}
use Rattle.entities.specs.Phase.Reserve.{with_births, with_marks}
use Rattle.entities.specs.Phase.Trace.{Phase, run, start, in_marks}
use Rattle.entities.specs.Phase.Rule.{line, AmongLines, Among}
use Rattle.entities.specs.Phase.Board.{AreFresh, record_of, number_of_pass}
use Rattle.entities.specs.Phase.Calls.{IsClosed}
use mathlib.Core.Path.{fun_ext}

-- a line without a step has none
no_step : (s : Step) (n : ℕ) (rest : List Line) → AmongLines s (line n [] ∷ rest) → AmongLines s rest
unfolding AmongLines Among
no_step s n rest (inl here) = elim here [ ]
no_step s n rest (inr later) = later

no_line : (s : Step) → AmongLines s [] → ⊥
unfolding AmongLines
no_line s h = h

-- passes that made no step have a record without one
no_steps : (board : Board) (k : ℕ) (s : Step) (xs : List Pass) → AreFresh board k xs → AmongLines s (record_of xs) → ⊥
no_steps board k s [] h among = no_line s among
no_steps board k s (x ∷ xs) h among =
    no_steps board (k + 1) s xs h.4 (no_step s (number_of_pass x) (record_of xs) (subst (λ (v : List Line). AmongLines s (v ++ record_of xs)) (h.0.one ∙ ap (λ steps. line (number_of_pass x) steps ∷ []) h.2) among))

lines : (board : Board) (k : ℕ) (xs : List Pass) → AreFresh board k xs → length (record_of xs) ≡ length xs
lines board k [] h = refl
lines board k (x ∷ xs) h = ap (λ (v : List Line). length (v ++ record_of xs)) (h.0.one ∙ ap (λ steps. line (number_of_pass x) steps ∷ []) h.2) ∙ ap suc (lines board (k + 1) xs h.4)

same_population : (p q : Population) → ((i : ℕ) → p.births i ≡ q.births i) → ((i : ℕ) → p.merged i ≡ q.merged i) → ((i : ℕ) → p.pending i ≡ q.pending i) → ((i : ℕ) → p.marked i ≡ q.marked i) → p ≡ q
same_population p q b m r k = λ t. record { births = fun_ext b t; merged = fun_ext m t; pending = fun_ext r t; marked = fun_ext k t }

-- nobody born and nobody marked
none_born : (p : Population) (f : ℕ → Bool) → ((i : ℕ) → f i ≡ false) → with_marks f (with_births [] p) ≡ p
none_born p f none = same_population _ _ (λ _. refl) (λ _. refl) (λ i. or-false (p.pending i)) (λ i. ap (λ b. p.marked i || b) (none i) ∙ or-false (p.marked i))

not_true : (b : Bool) → (b ≡ true → ⊥) → b ≡ false
not_true true h = absurd (h refl)
not_true false h = refl

pub unused : (board : Board) (o : Phase) (xs ys : List Pass) (before after : Population) (births marks : ℕ) → ys ≡ xs → AreFresh board 0 xs → length xs ≡ o.passes → IsClosed o (record_of ys) before after births marks → after ≡ before
unused board o xs ys before after births marks same fresh all by_same =
    let closed = subst (λ (ps : List Pass). IsClosed o (record_of ps) before after births marks) same by_same in
    let complete : length (record_of xs) ≡ o.passes = lines board 0 xs fresh ∙ all in
    let births_none : births ≡ 0 = none births (λ lt. no_steps board 0 (Draw 0) xs fresh (closed.births_were_given complete 0 lt)) in
    let marks_none : (i : ℕ) → in_marks i (run start closed.trace).marks ≡ false = λ i. not_true _ (λ is. no_steps board 0 (Mark i) xs fresh (closed.marks_were_told complete i is)) in
    closed.leaves
    ∙ ap (λ n. with_marks (λ i. in_marks i (run start closed.trace).marks) (with_births (take n o.reserve) before)) births_none
    ∙ none_born before (λ i. in_marks i (run start closed.trace).marks) marks_none
  where
    none : (n : ℕ) → (0 < n → ⊥) → n ≡ 0
    none zero h = refl
    none (suc n) h = absurd (h (omega arith))
