-- Lists of steps, and what one more step changes.
use Rattle.std.proofs.Common.{◌≡◌, ℕ, ◌+◌, ◌<◌, ◌≤◌, ◌≢◌, Bool, true, false, cond, List, [], ◌∷◌, ◌++◌, length, refl, sym, ap, ◌∙◌, subst, arith, eq-eqb, ne_eqb}
use Rattle.std.specs.Prelude.{◌==◌, flat_map}
use Rattle.std.proofs.lemmas.Grind.{flat_map-append}
use Rattle.std.proofs.lemmas.List.{append-nil}
use mathlib.Core.Logic.{dite}
use native.Mathlib.Decide.{ℕ_discrete}
use Rattle.entities.specs.declared.phase.trace.Step.{Step}
use Rattle.entities.specs.declared.phase.trace.Step.TheVariants.{Draw, Look, Mark, Peek}
use Rattle.entities.specs.Phase.Trace.{Phase, Reached, Event, Each, start, run, after, steps_of, IsRight, AreRight, IsInterleaving, AreCalls, Call, steps_of_call, IsLegal, misses}

pub Each-push : {X : Type 0} (P : X → Type 0) (xs : List X) (x : X) → Each P xs → P x → Each P (xs ++ x ∷ [])
Each-push P [] x h p = (p, tt)
Each-push P (y ∷ ys) x h p = (h.0, Each-push P ys x h.1 p)

pub run-push : (w : Reached) (es : List Event) (e : Event) → run w (es ++ e ∷ []) ≡ after (run w es) e.1
run-push w [] e = refl
run-push w (x ∷ xs) e = run-push (after w x.1) xs e

pub AreRight-push : (w : Reached) (es : List Event) (e : Event) → AreRight w es → IsRight (run w es) e.1 → AreRight w (es ++ e ∷ [])
AreRight-push w [] e r h = (h, tt)
AreRight-push w (x ∷ xs) e r h = (r.0, AreRight-push (after w x.1) xs e r.1 h)

cond_push : (c : Bool) (x : Step) (l m t : List Step) → m ≡ l ++ t → cond c (x ∷ m) m ≡ cond c (x ∷ l) l ++ t
cond_push true x l m t e = ap (λ (k : List Step). x ∷ k) e
cond_push false x l m t e = e

steps_of-push : (p : ℕ) (es : List Event) (e : Event) → steps_of p (es ++ e ∷ []) ≡ steps_of p es ++ cond (p == e.0) (e.1 ∷ []) []
steps_of-push p [] e = refl
steps_of-push p (x ∷ xs) e = cond_push (p == x.0) x.1 (steps_of p xs) (steps_of p (xs ++ e ∷ [])) (cond (p == e.0) (e.1 ∷ []) []) (steps_of-push p xs e)

pub steps_of-mine : (p q : ℕ) (es : List Event) (s : Step) → p ≡ q → steps_of p (es ++ (q, s) ∷ []) ≡ steps_of p es ++ s ∷ []
steps_of-mine p q es s h = steps_of-push p es (q, s) ∙ ap (λ (b : Bool). steps_of p es ++ cond b (s ∷ []) []) (eq-eqb p q h)

pub steps_of-other : (p q : ℕ) (es : List Event) (s : Step) → p ≢ q → steps_of p (es ++ (q, s) ∷ []) ≡ steps_of p es
steps_of-other p q es s h = steps_of-push p es (q, s) ∙ (ap (λ (b : Bool). steps_of p es ++ cond b (s ∷ []) []) (ne_eqb p q h) ∙ append-nil (steps_of p es))

pub misses-push : (n : ℕ) (xs : List Step) (s : Step) → misses n (xs ++ s ∷ []) ≡ misses n xs + misses n (s ∷ [])
misses-push n [] s = omega arith
misses-push n (Draw t ∷ xs) s = let h = misses-push n xs s in omega arith
misses-push n (Look t ∷ xs) s = misses-push n xs s
misses-push n (Mark t ∷ xs) s = misses-push n xs s
misses-push n (Peek t b ∷ xs) s = misses-push n xs s

-- one more call of a pass
pub AreCalls-push : (o : Phase) (steps : List Step) (c : Call) → AreCalls o steps → IsLegal o c → misses (length o.reserve) (steps ++ steps_of_call c) ≤ 1 → AreCalls o (steps ++ steps_of_call c)
AreCalls-push o steps c r l m = record {
  calls = r.calls ++ c ∷ [];
  same = ap (λ (k : List Step). k ++ steps_of_call c) r.same ∙ (ap (λ (k : List Step). flat_map steps_of_call r.calls ++ k) (sym (append-nil (steps_of_call c))) ∙ sym (flat_map-append steps_of_call r.calls (c ∷ [])));
  legal = Each-push (IsLegal o) r.calls c r.legal l;
  spent = m;
}

-- one more step of an interleaving
pub IsInterleaving-push : (o : Phase) (es : List Event) (p : ℕ) (s : Step) → IsInterleaving o es → p < o.passes → IsRight (run start es) s → AreCalls o (steps_of p es ++ s ∷ []) → IsInterleaving o (es ++ (p, s) ∷ [])
IsInterleaving-push o es p s r below right calls = record {
  right = AreRight-push start es (p, s) r.right right;
  calls = λ q. dite (ℕ_discrete q p)
      (λ e. subst (AreCalls o) (sym (steps_of-mine q p es s e)) (subst (λ (k : ℕ). AreCalls o (steps_of k es ++ s ∷ [])) (sym e) calls))
      (λ ne. subst (AreCalls o) (sym (steps_of-other q p es s ne)) (r.calls q));
  numbers = Each-push (λ (e : Event). e.0 < o.passes) es (p, s) r.numbers below;
}
