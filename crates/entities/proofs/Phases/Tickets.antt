-- No ticket is drawn twice.
use Rattle.std.proofs.Common.{◌≡◌, ◌≢◌, ◌⊎◌, ⊎_elim, ℕ, ◌+◌, ◌<◌, ◌≤◌, Bool, cond, List, [], ◌∷◌, refl, sym, ap, ◌∙◌, subst, arith, eq-eqb, ne_eqb}
use mathlib.Core.Logic.{dite}
use native.Mathlib.Decide.{ℕ_discrete}
use Rattle.entities.specs.declared.phase.trace.Step.{Step}
use Rattle.entities.specs.declared.phase.trace.Step.TheVariants.{Draw, Look, Mark, Peek}
use Rattle.entities.specs.Phase.Trace.{Reached, Event, after, steps_of, IsRight, AreRight}
use Rattle.entities.specs.Phase.Rule.{Among}

grows : (w : Reached) (s : Step) → w.cursor ≤ (after w s).cursor
grows w (Draw n) = omega arith
grows w (Look n) = omega arith
grows w (Mark i) = omega arith
grows w (Peek i b) = omega arith

is_cursor : (w : Reached) (s : Step) (t : ℕ) → IsRight w s → s ≡ Draw t → (t ≡ w.cursor) × ((after w s).cursor ≡ w.cursor + 1)
is_cursor w (Draw n) t right e = let k : n ≡ t = cc in (sym k ∙ right, refl)
is_cursor w (Look n) t right e = absurd (cc)
is_cursor w (Mark i) t right e = absurd (cc)
is_cursor w (Peek i b) t right e = absurd (cc)

-- the steps of a pass after one event more
pub mine : (s : Step) (p : ℕ) (e : Event) (es : List Event) → p ≡ e.0 → Among s (steps_of p (e ∷ es)) → (e.1 ≡ s) ⊎ Among s (steps_of p es)
unfolding Among
mine s p e es is h = subst (λ (b : Bool). Among s (cond b (e.1 ∷ steps_of p es) (steps_of p es))) (eq-eqb p e.0 is) h

pub others : (s : Step) (p : ℕ) (e : Event) (es : List Event) → p ≢ e.0 → Among s (steps_of p (e ∷ es)) → Among s (steps_of p es)
others s p e es ne h = subst (λ (b : Bool). Among s (cond b (e.1 ∷ steps_of p es) (steps_of p es))) (ne_eqb p e.0 ne) h

-- a ticket that is drawn is not below the cursor
pub not_below : (t p : ℕ) (w : Reached) (es : List Event) → AreRight w es → Among (Draw t) (steps_of p es) → w.cursor ≤ t
unfolding Among
not_below t p w [] r h = absurd h
not_below t p w (e ∷ es) r h = let up = grows w e.1 in dite (ℕ_discrete p e.0)
    (λ is. ⊎_elim
    (λ (here : e.1 ≡ Draw t). let k = is_cursor w e.1 t r.0 here in omega (arith, k.0))
    (λ (later : Among (Draw t) (steps_of p es)). let k = not_below t p (after w e.1) es r.1 later in omega (arith, up, k))
    (mine (Draw t) p e es is h))
    (λ ne. let k = not_below t p (after w e.1) es r.1 (others (Draw t) p e es ne h) in omega (arith, up, k))

-- no two passes draw one
pub apart : (t p q : ℕ) (w : Reached) (es : List Event) → p ≢ q → AreRight w es → Among (Draw t) (steps_of p es) → Among (Draw t) (steps_of q es) → ⊥
unfolding Among
apart t p q w [] ne r a b = absurd a
apart t p q w (e ∷ es) ne r a b = dite (ℕ_discrete p e.0)
    (λ is. let b' = others (Draw t) q e es (λ k. ne (is ∙ sym k)) b in ⊎_elim
    (λ (here : e.1 ≡ Draw t). let k = is_cursor w e.1 t r.0 here in let m = not_below t q (after w e.1) es r.1 b' in omega (arith, k.0, k.1, m))
    (λ (later : Among (Draw t) (steps_of p es)). apart t p q (after w e.1) es ne r.1 later b')
    (mine (Draw t) p e es is a))
    (λ np. let a' = others (Draw t) p e es np a in dite (ℕ_discrete q e.0)
    (λ is. ⊎_elim
    (λ (here : e.1 ≡ Draw t). let k = is_cursor w e.1 t r.0 here in let m = not_below t p (after w e.1) es r.1 a' in omega (arith, k.0, k.1, m))
    (λ (later : Among (Draw t) (steps_of q es)). apart t p q (after w e.1) es ne r.1 a' later)
    (mine (Draw t) q e es is b))
    (λ nq. apart t p q (after w e.1) es ne r.1 a' (others (Draw t) q e es nq b)))
