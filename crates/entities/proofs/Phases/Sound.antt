-- What holds of every interleaving.
use Rattle.std.proofs.Common.{◌≡◌, ◌⊎◌, inl, inr, ⊎_elim, ℕ, zero, suc, ◌+◌, ◌-◌, ◌<◌, ◌≤◌, ◌≢◌, Bool, true, false, true≢false, cond, eqb, List, [], ◌∷◌, ◌++◌, length, take, refl, sym, ap, ◌∙◌, subst, arith, eq-eqb, ne_eqb, le-leb, append_assoc, add-one}
use Rattle.std.specs.Prelude.{nat_le, flat_map, slice_get}
use Rattle.std.proofs.lemmas.Bool.{lt-leb}
use Rattle.std.specs.Option.{option_to_list}
use Rattle.std.proofs.lemmas.List.{append-nil}
use mathlib.Core.Logic.{dite}
use native.Mathlib.Decide.{ℕ_discrete, dec_le}
use Rattle.entities.specs.declared.entity.Entity.{Entity}
use Rattle.entities.specs.Population.{IsAlive}
use Rattle.entities.specs.Phase.Reserve.{IsReserve}
use Rattle.entities.proofs.Phases.Reserve.{taken_apart, taken_new}
use Rattle.entities.specs.declared.phase.trace.Step.{Step}
use Rattle.entities.specs.declared.phase.trace.Step.TheVariants.{Draw, Look, Mark, Peek}
use Rattle.entities.specs.declared.phase.trace.Line.{Line}
use Rattle.entities.specs.Phase.Rule.{lines_of, IsRecorded, Among, AmongLines}
use Rattle.entities.specs.Phase.Trace.{Phase, Reached, Event, Each, one_if, start, run, after, in_marks, steps_of, IsRight, AreRight, IsInterleaving, Call, creates, looks, marks_new, marks_old, peeks_new, peeks_old, steps_of_call, IsLegal, IsGivenBelow, misses, given_to, given, IsOfAlive, IsSound}

-- what was given out is a beginning of the reserve
take_one : (l : List Entity) (n : ℕ) → take n l ++ option_to_list (slice_get l n) ≡ take (n + 1) l
take_one [] zero = refl
take_one [] (suc n) = rw (add-one) refl
take_one (x ∷ xs) zero = refl
take_one (x ∷ xs) (suc n) = rw (add-one) (ap (λ (k : List Entity). x ∷ k) (take_one xs n ∙ ap (λ (k : ℕ). take k xs) (add-one n)))

given_step : (l : List Entity) (w : Reached) (s : Step) (rest : List Entity) (end : ℕ) → IsRight w s → take (after w s).cursor l ++ rest ≡ take end l → take w.cursor l ++ (given_to l s ++ rest) ≡ take end l
given_step l w (Draw n) rest end right h = let f = λ (k : ℕ). take w.cursor l ++ (option_to_list (slice_get l k) ++ rest) in
    ap f right ∙ (sym (append_assoc (take w.cursor l) (option_to_list (slice_get l w.cursor)) rest) ∙ (ap (λ (k : List Entity). k ++ rest) (take_one l w.cursor) ∙ h))
given_step l w (Look n) rest end right h = h
given_step l w (Mark i) rest end right h = h
given_step l w (Peek i b) rest end right h = h

given_from : (l : List Entity) (w : Reached) (es : List Event) → AreRight w es → take w.cursor l ++ given l es ≡ take (run w es).cursor l
given_from l w [] r = append-nil (take w.cursor l)
given_from l w (e ∷ es) r = given_step l w e.1 (given l es) (run (after w e.1) es).cursor r.0 (given_from l (after w e.1) es r.1)

-- how many tickets at or past n were drawn
all_misses : ℕ → List Event → ℕ
all_misses n [] = 0
all_misses n (e ∷ es) = misses n (e.1 ∷ []) + all_misses n es

-- f 0 + .. + f (n - 1)
sum_below : (ℕ → ℕ) → ℕ → ℕ
sum_below f zero = 0
sum_below f (suc n) = sum_below f n + f n

sum_zero : (n : ℕ) → sum_below (λ _. 0) n ≡ 0
unfolding sum_below
sum_zero zero = refl
sum_zero (suc n) = let h = sum_zero n in omega arith

-- one term more
sum_less : (f g : ℕ → ℕ) (p n : ℕ) → ((q : ℕ) → q ≢ p → g q ≡ f q) → n ≤ p → sum_below g n ≡ sum_below f n
unfolding sum_below
sum_less f g p zero same h = refl
sum_less f g p (suc n) same h = let r = sum_less f g p n same (omega arith) in let e = same n (λ k. omega arith) in omega arith

sum_more : (f g : ℕ → ℕ) (p a n : ℕ) → g p ≡ a + f p → ((q : ℕ) → q ≢ p → g q ≡ f q) → p < n → sum_below g n ≡ a + sum_below f n
unfolding sum_below
sum_more f g p a zero here same h = absurd (omega arith)
sum_more f g p a (suc n) here same h = dite (ℕ_discrete n p)
    (λ e. let r = sum_less f g p n same (omega arith) in let t : g n ≡ a + f n = subst (λ (k : ℕ). g k ≡ a + f k) (sym e) here in omega arith)
    (λ ne. let r = sum_more f g p a n here same (omega arith) in let t = same n ne in omega arith)

sum_bound : (f : ℕ → ℕ) (n : ℕ) → ((q : ℕ) → f q ≤ 1) → sum_below f n ≤ n
unfolding sum_below
sum_bound f zero h = omega arith
sum_bound f (suc n) h = let r = sum_bound f n h in let t = h n in omega arith

misses-cons : (n : ℕ) (s : Step) (xs : List Step) → misses n (s ∷ xs) ≡ misses n (s ∷ []) + misses n xs
misses-cons n (Draw t) xs = omega arith
misses-cons n (Look t) xs = omega arith
misses-cons n (Mark t) xs = omega arith
misses-cons n (Peek t b) xs = omega arith

-- each pass's misses are among them
misses_by_pass : (n passes : ℕ) (es : List Event) → Each (λ e. e.0 < passes) es → all_misses n es ≡ sum_below (λ q. misses n (steps_of q es)) passes
unfolding all_misses
misses_by_pass n passes [] h = sym (sum_zero passes)
misses_by_pass n passes (e ∷ es) h = ap (λ (k : ℕ). misses n (e.1 ∷ []) + k) (misses_by_pass n passes es h.1)
    ∙ sym (sum_more (λ q. misses n (steps_of q es)) (λ q. misses n (steps_of q (e ∷ es))) e.0 (misses n (e.1 ∷ [])) passes
    (ap (λ (b : Bool). misses n (cond b (e.1 ∷ steps_of e.0 es) (steps_of e.0 es))) (eq-eqb e.0 e.0 refl) ∙ misses-cons n e.1 (steps_of e.0 es))
    (λ q ne. ap (λ (b : Bool). misses n (cond b (e.1 ∷ steps_of q es) (steps_of q es))) (ne_eqb q e.0 ne))
    h.0)

-- the cursor passes n only by misses
missed : (n c m k : ℕ) → k ≤ n + (c + 1 - n) + m → k ≤ n + (c - n) + (one_if (nat_le n c) + m)
missed n c m k h = dite (dec_le n c)
    (λ le. rw (le-leb n c le) (omega arith))
    (λ gt. omega arith)

cursor_step : (n : ℕ) (w : Reached) (s : Step) (m k : ℕ) → IsRight w s → k ≤ n + ((after w s).cursor - n) + m → k ≤ n + (w.cursor - n) + (misses n (s ∷ []) + m)
cursor_step n w (Draw t) m k right h = subst (λ (x : ℕ). k ≤ n + (w.cursor - n) + (one_if (nat_le n x) + 0 + m)) (sym right) (let r = missed n w.cursor m k h in omega arith)
cursor_step n w (Look t) m k right h = omega arith
cursor_step n w (Mark t) m k right h = omega arith
cursor_step n w (Peek t b) m k right h = omega arith

cursor_bound : (n : ℕ) (w : Reached) (es : List Event) → AreRight w es → (run w es).cursor ≤ n + (w.cursor - n) + all_misses n es
unfolding all_misses
cursor_bound n w [] r = omega arith
cursor_bound n w (e ∷ es) r = cursor_step n w e.1 (all_misses n es) (run w (e ∷ es)).cursor r.0 (cursor_bound n (after w e.1) es r.1)

pub bounded : (o : Phase) (es : List Event) → IsInterleaving o es → (run start es).cursor ≤ length o.reserve + o.passes
bounded o es r = let a = cursor_bound (length o.reserve) start es r.right in let b = misses_by_pass (length o.reserve) o.passes es r.numbers in
    let c = sum_bound (λ q. misses (length o.reserve) (steps_of q es)) o.passes (λ q. (r.calls q).spent) in omega arith

-- a pass that made the step
IsMade : Step → List Event → Type 0
IsMade s es = (p : ℕ) × Among s (steps_of p es)

among_more : (s : Step) (p : ℕ) (e : Event) (es : List Event) → Among s (steps_of p es) → Among s (steps_of p (e ∷ es))
unfolding Among
among_more s p e es h = dite (ℕ_discrete p e.0)
    (λ eq. subst (λ (b : Bool). Among s (cond b (e.1 ∷ steps_of p es) (steps_of p es))) (sym (eq-eqb p e.0 eq)) (inr h))
    (λ ne. subst (λ (b : Bool). Among s (cond b (e.1 ∷ steps_of p es) (steps_of p es))) (sym (ne_eqb p e.0 ne)) h)

among_here : (e : Event) (es : List Event) → Among e.1 (steps_of e.0 (e ∷ es))
unfolding Among
among_here e es = subst (λ (b : Bool). Among e.1 (cond b (e.1 ∷ steps_of e.0 es) (steps_of e.0 es))) (sym (eq-eqb e.0 e.0 refl)) (inl refl)

-- a mark was made by some pass
mark_step : (i : ℕ) (w : Reached) (e : Event) (es : List Event) → (in_marks i (after w e.1).marks ≡ true) → (in_marks i w.marks ≡ true) ⊎ IsMade (Mark i) (e ∷ es)
unfolding IsMade
mark_step i w (p, Draw n) es h = inl h
mark_step i w (p, Look n) es h = inl h
mark_step i w (p, Peek j b) es h = inl h
mark_step i w (p, Mark j) es h = dite (ℕ_discrete i j)
    (λ eq. inr (p, subst (λ (k : ℕ). Among (Mark k) (steps_of p ((p, Mark j) ∷ es))) (sym eq) (among_here (p, Mark j) es)))
    (λ ne. inl (subst (λ (b : Bool). cond b true (in_marks i w.marks) ≡ true) (ne_eqb i j ne) h))

mark_made : (i : ℕ) (w : Reached) (es : List Event) → in_marks i (run w es).marks ≡ true → (in_marks i w.marks ≡ true) ⊎ IsMade (Mark i) es
unfolding IsMade
mark_made i w [] h = inl h
mark_made i w (e ∷ es) h = ⊎_elim
    (λ was. mark_step i w e es was)
    (λ (made : (p : ℕ) × Among (Mark i) (steps_of p es)). inr (made.0, among_more (Mark i) made.0 e es made.1))
    (mark_made i (after w e.1) es h)

-- the cursor never goes back
cursor_grows : (w : Reached) (s : Step) → w.cursor ≤ (after w s).cursor
cursor_grows w (Draw n) = omega arith
cursor_grows w (Look n) = omega arith
cursor_grows w (Mark i) = omega arith
cursor_grows w (Peek i b) = omega arith

pub run_grows : (w : Reached) (es : List Event) → w.cursor ≤ (run w es).cursor
run_grows w [] = omega arith
run_grows w (e ∷ es) = let a = cursor_grows w e.1 in let b = run_grows (after w e.1) es in omega arith

-- what a Look answered is at most the cursor at the end
look_in : (w : Reached) (s : Step) (n : ℕ) → IsRight w s → s ≡ Look n → n ≤ w.cursor
look_in w (Draw t) n right e = absurd (cc)
look_in w (Look t) n right e = let k : t ≡ n = cc in omega arith
look_in w (Mark i) n right e = absurd (cc)
look_in w (Peek i b) n right e = absurd (cc)

look_bound : (n p : ℕ) (w : Reached) (es : List Event) → AreRight w es → Among (Look n) (steps_of p es) → n ≤ (run w es).cursor
unfolding Among
look_bound n p w [] r h = absurd h
look_bound n p w (e ∷ es) r h = let up = run_grows (after w e.1) es in let up' = cursor_grows w e.1 in dite (ℕ_discrete p e.0)
    (λ eq. ⊎_elim (λ (is : e.1 ≡ Look n). let k = look_in w e.1 n r.0 is in omega arith) (λ (later : Among (Look n) (steps_of p es)). look_bound n p (after w e.1) es r.1 later)
    (subst (λ (b : Bool). Among (Look n) (cond b (e.1 ∷ steps_of p es) (steps_of p es))) (eq-eqb p e.0 eq) h))
    (λ ne. look_bound n p (after w e.1) es r.1 (subst (λ (b : Bool). Among (Look n) (cond b (e.1 ∷ steps_of p es) (steps_of p es))) (ne_eqb p e.0 ne) h))

-- what a mark by a list of calls rests on
Rests : Phase → ℕ → List Step → Type 0
Rests o i ss = ((e : Entity) × (IsAlive o.opening e) × (e.0 ≡ i)) ⊎ ((e : Entity) × (n : ℕ) × IsGivenBelow o.reserve e n × (e.0 ≡ i) × Among (Look n) ss)

rests_more : (o : Phase) (i : ℕ) (s : Step) (ss : List Step) → Rests o i ss → Rests o i (s ∷ ss)
unfolding Rests Among
rests_more o i s ss h = ⊎_elim (λ old. inl old) (λ (new : (e : Entity) × (n : ℕ) × IsGivenBelow o.reserve e n × (e.0 ≡ i) × Among (Look n) ss). inr (new.0, new.1, new.2, new.3, inr new.4)) h

mark_rests : (o : Phase) (i : ℕ) (cs : List Call) → Each (IsLegal o) cs → Among (Mark i) (flat_map steps_of_call cs) → Rests o i (flat_map steps_of_call cs)
unfolding Rests Among
mark_rests o i [] l h = absurd h
mark_rests o i (creates n ∷ cs) l h = ⊎_elim (λ (e : Draw n ≡ Mark i). absurd (cc)) (λ (t : Among (Mark i) (flat_map steps_of_call cs)). rests_more o i (Draw n) _ (mark_rests o i cs l.1 t)) h
mark_rests o i (looks n ∷ cs) l h = ⊎_elim (λ (e : Look n ≡ Mark i). absurd (cc)) (λ (t : Among (Mark i) (flat_map steps_of_call cs)). rests_more o i (Look n) _ (mark_rests o i cs l.1 t)) h
mark_rests o i (marks_new x n ∷ cs) l h = ⊎_elim (λ (e : Look n ≡ Mark i). absurd (cc))
    (λ (t : (Mark x.0 ≡ Mark i) ⊎ Among (Mark i) (flat_map steps_of_call cs)). ⊎_elim
    (λ (e : Mark x.0 ≡ Mark i). inr (x, n, l.0, (let k : x.0 ≡ i = cc in k), inl refl))
    (λ (u : Among (Mark i) (flat_map steps_of_call cs)). rests_more o i (Look n) (Mark x.0 ∷ flat_map steps_of_call cs) (rests_more o i (Mark x.0) (flat_map steps_of_call cs) (mark_rests o i cs l.1 u))) t) h
mark_rests o i (marks_old x ∷ cs) l h = ⊎_elim
    (λ (e : Mark x.0 ≡ Mark i). inl (x, l.0, (let k : x.0 ≡ i = cc in k)))
    (λ (t : Among (Mark i) (flat_map steps_of_call cs)). rests_more o i (Mark x.0) _ (mark_rests o i cs l.1 t)) h
mark_rests o i (peeks_new x n b ∷ cs) l h = ⊎_elim (λ (e : Look n ≡ Mark i). absurd (cc))
    (λ (t : (Peek x.0 b ≡ Mark i) ⊎ Among (Mark i) (flat_map steps_of_call cs)). ⊎_elim
    (λ (e : Peek x.0 b ≡ Mark i). absurd (cc))
    (λ (u : Among (Mark i) (flat_map steps_of_call cs)). rests_more o i (Look n) (Peek x.0 b ∷ flat_map steps_of_call cs) (rests_more o i (Peek x.0 b) (flat_map steps_of_call cs) (mark_rests o i cs l.1 u))) t) h
mark_rests o i (peeks_old x b ∷ cs) l h = ⊎_elim (λ (e : Peek x.0 b ≡ Mark i). absurd (cc)) (λ (t : Among (Mark i) (flat_map steps_of_call cs)). rests_more o i (Peek x.0 b) _ (mark_rests o i cs l.1 t)) h

pub marked_alive : (o : Phase) (es : List Event) → IsInterleaving o es → (i : ℕ) → in_marks i (run start es).marks ≡ true → IsOfAlive o (run start es).cursor i
unfolding Rests Among IsMade
marked_alive o es r i h = ⊎_elim (λ (no : false ≡ true). absurd (true≢false (sym no)))
    (λ (made : (p : ℕ) × Among (Mark i) (steps_of p es)). let c = r.calls made.0 in ⊎_elim
    (λ old. inl old)
    (λ (new : (e : Entity) × (n : ℕ) × IsGivenBelow o.reserve e n × (e.0 ≡ i) × Among (Look n) (flat_map steps_of_call c.calls)).
    let low = look_bound new.1 made.0 start es r.right (subst (Among (Look new.1)) (sym c.same) new.4) in let low' : new.1 ≤ (run start es).cursor = low in let at = new.2 in let less = at.2 in
    inr (new.0, (at.0, at.1, omega arith), new.3))
    (mark_rests o i c.calls c.legal (subst (Among (Mark i)) c.same made.1)))
    (mark_made i start es h)

pub sound : (o : Phase) → IsReserve o.opening o.reserve → (es : List Event) → IsInterleaving o es → IsSound o es
sound o reserve es r =
    let first = given_from o.reserve start es r.right in
    record {
      given_first = first;
      given_once = rw first (taken_apart o.opening o.reserve (run start es).cursor reserve);
      given_new = rw first (taken_new o.opening o.reserve (run start es).cursor reserve);
      bounded = bounded o es r;
      marked_alive = marked_alive o es r;
    }

-- where every pass came back, each ticket was drawn by a pass whose record came back
draw_here : (w : Reached) (s : Step) (k : ℕ) → IsRight w s → w.cursor ≤ k → k < (after w s).cursor → s ≡ Draw k
draw_here w (Draw n) k right low high = ap Draw (let e : n ≡ k = omega arith in e)
draw_here w (Look n) k right low high = absurd (omega arith)
draw_here w (Mark i) k right low high = absurd (omega arith)
draw_here w (Peek i b) k right low high = absurd (omega arith)

drawn : (v : List Line) (k : ℕ) (w : Reached) (es : List Event) → AreRight w es → Each (λ e. lines_of e.0 v ≡ 1) es → w.cursor ≤ k → k < (run w es).cursor → (p : ℕ) × (lines_of p v ≡ 1) × Among (Draw k) (steps_of p es)
drawn v k w [] r h low high = absurd (omega arith)
drawn v k w (e ∷ es) r h low high = dite (dec_le (after w e.1).cursor k)
    (λ le. let t = drawn v k (after w e.1) es r.1 h.1 le high in (t.0, t.1, among_more (Draw k) t.0 e es t.2))
    (λ gt. (e.0, h.0, subst (λ (s : Step). Among s (steps_of e.0 (e ∷ es))) (draw_here w e.1 k r.0 low (omega arith)) (among_here e es)))

line_found : (p : ℕ) (s : Step) (es : List Event) (v : List Line) → lines_of p v ≡ 1 → IsRecorded es v → Among s (steps_of p es) → AmongLines s v
unfolding AmongLines
line_found p s es [] one r h = absurd (omega arith)
line_found p s es (x ∷ xs) one r h = dite (ℕ_discrete p x.pass)
    (λ e. inl (subst (Among s) r.0 (subst (λ (q : ℕ). Among s (steps_of q es)) e h)))
    (λ ne. let z = ap one_if (ne_eqb p x.pass ne) in inr (line_found p s es xs (omega arith) r.1 h))

pub each_ticket : (v : List Line) (es : List Event) → AreRight start es → Each (λ e. lines_of e.0 v ≡ 1) es → IsRecorded es v → (k : ℕ) → k < (run start es).cursor → AmongLines (Draw k) v
each_ticket v es r h rec k low = let t = drawn v k start es r h (omega arith) low in line_found t.0 (Draw k) es v t.1 rec t.2

-- a pass that made a step is of the record, where every pass came back
made_back : (p : ℕ) (s : Step) (es : List Event) (v : List Line) → Each (λ e. lines_of e.0 v ≡ 1) es → Among s (steps_of p es) → lines_of p v ≡ 1
unfolding Among
made_back p s [] v h a = absurd a
made_back p s (e ∷ es) v h a = dite (ℕ_discrete p e.0)
    (λ eq. rw eq h.0)
    (λ ne. made_back p s es v h.1 (subst (λ (b : Bool). Among s (cond b (e.1 ∷ steps_of p es) (steps_of p es))) (ne_eqb p e.0 ne) a))

pub each_mark : (v : List Line) (es : List Event) → Each (λ e. lines_of e.0 v ≡ 1) es → IsRecorded es v → (i : ℕ) → in_marks i (run start es).marks ≡ true → AmongLines (Mark i) v
unfolding IsMade
each_mark v es h rec i marked = ⊎_elim
    (λ (no : false ≡ true). absurd (true≢false (sym no)))
    (λ (made : (p : ℕ) × Among (Mark i) (steps_of p es)). line_found made.0 (Mark i) es v (made_back made.0 (Mark i) es v h made.1) rec made.1)
    (mark_made i start es marked)

-- a step of a record is of the interleaving
line_steps : (s : Step) (es : List Event) (v : List Line) → IsRecorded es v → AmongLines s v → (p : ℕ) × Among s (steps_of p es)
unfolding AmongLines
line_steps s es [] r h = absurd h
line_steps s es (x ∷ xs) r h = ⊎_elim
    (λ (here : Among s x.steps). (x.pass, subst (Among s) (sym r.0) here))
    (λ (later : AmongLines s xs). line_steps s es xs r.1 later)
    h

draw_in : (w : Reached) (s : Step) (t : ℕ) → IsRight w s → s ≡ Draw t → t < (after w s).cursor
draw_in w (Draw n) t right e = let k : n ≡ t = cc in omega arith
draw_in w (Look n) t right e = absurd (cc)
draw_in w (Mark i) t right e = absurd (cc)
draw_in w (Peek i b) t right e = absurd (cc)

draw_bound : (t p : ℕ) (w : Reached) (es : List Event) → AreRight w es → Among (Draw t) (steps_of p es) → t < (run w es).cursor
unfolding Among
draw_bound t p w [] r h = absurd h
draw_bound t p w (e ∷ es) r h = let up = run_grows (after w e.1) es in dite (ℕ_discrete p e.0)
    (λ eq. ⊎_elim (λ (is : e.1 ≡ Draw t). let k = draw_in w e.1 t r.0 is in omega arith) (λ (later : Among (Draw t) (steps_of p es)). draw_bound t p (after w e.1) es r.1 later)
    (subst (λ (b : Bool). Among (Draw t) (cond b (e.1 ∷ steps_of p es) (steps_of p es))) (eq-eqb p e.0 eq) h))
    (λ ne. draw_bound t p (after w e.1) es r.1 (subst (λ (b : Bool). Among (Draw t) (cond b (e.1 ∷ steps_of p es) (steps_of p es))) (ne_eqb p e.0 ne) h))

pub drawn_below : (v : List Line) (es : List Event) → AreRight start es → IsRecorded es v → (t : ℕ) → AmongLines (Draw t) v → t < (run start es).cursor
drawn_below v es r rec t h = let at = line_steps (Draw t) es v rec h in draw_bound t at.0 start es r at.1

-- a mark stays
keeps_mark : (i : ℕ) (w : Reached) (s : Step) → in_marks i w.marks ≡ true → in_marks i (after w s).marks ≡ true
keeps_mark i w (Draw n) h = h
keeps_mark i w (Look n) h = h
keeps_mark i w (Peek j b) h = h
keeps_mark i w (Mark j) h = elim (eqb i j) as (λ (b : Bool). cond b true (in_marks i w.marks) ≡ true) [ true ↦ refl | false ↦ h ]

mark_stays : (i : ℕ) (w : Reached) (es : List Event) → in_marks i w.marks ≡ true → in_marks i (run w es).marks ≡ true
mark_stays i w [] h = h
mark_stays i w (e ∷ es) h = mark_stays i (after w e.1) es (keeps_mark i w e.1 h)

mark_here : (i : ℕ) (w : Reached) (s : Step) → s ≡ Mark i → in_marks i (after w s).marks ≡ true
mark_here i w s e = ap (λ (x : Step). in_marks i (after w x).marks) e ∙ ap (λ (b : Bool). cond b true (in_marks i w.marks)) (eq-eqb i i refl)

pub own_mark : (i p : ℕ) (w : Reached) (es : List Event) → Among (Mark i) (steps_of p es) → in_marks i (run w es).marks ≡ true
unfolding Among
own_mark i p w [] h = absurd h
own_mark i p w (e ∷ es) h = dite (ℕ_discrete p e.0)
    (λ eq. ⊎_elim (λ (is : e.1 ≡ Mark i). mark_stays i (after w e.1) es (mark_here i w e.1 is)) (λ (later : Among (Mark i) (steps_of p es)). own_mark i p (after w e.1) es later)
    (subst (λ (b : Bool). Among (Mark i) (cond b (e.1 ∷ steps_of p es) (steps_of p es))) (eq-eqb p e.0 eq) h))
    (λ ne. own_mark i p (after w e.1) es (subst (λ (b : Bool). Among (Mark i) (cond b (e.1 ∷ steps_of p es) (steps_of p es))) (ne_eqb p e.0 ne) h))

pub mark_told : (v : List Line) (es : List Event) → IsRecorded es v → (i : ℕ) → AmongLines (Mark i) v → in_marks i (run start es).marks ≡ true
mark_told v es rec i h = let at = line_steps (Mark i) es v rec h in own_mark i at.0 start es at.1

-- a pass that missed drew a ticket past the reserve
pub miss_draw : (n : ℕ) (ss : List Step) → 0 < misses n ss → (t : ℕ) × (n ≤ t) × Among (Draw t) ss
unfolding Among
miss_draw n [] h = absurd (omega arith)
miss_draw n (Draw t ∷ ss) h = dite (dec_le n t)
    (λ le. (t, le, inl refl))
    (λ gt. let z = ap one_if (lt-leb n t (omega arith)) in let r = miss_draw n ss (omega arith) in (r.0, r.1, inr r.2))
miss_draw n (Look t ∷ ss) h = let r = miss_draw n ss h in (r.0, r.1, inr r.2)
miss_draw n (Mark t ∷ ss) h = let r = miss_draw n ss h in (r.0, r.1, inr r.2)
miss_draw n (Peek t b ∷ ss) h = let r = miss_draw n ss h in (r.0, r.1, inr r.2)
