-- Each step of a pass keeps the rule.
use Rattle.std.proofs.Common.{◌≡◌, ⊎_elim, ℕ, zero, suc, ◌+◌, ◌/◌, ◌%◌, ◌^◌, ◌<◌, ◌≤◌, ◌≢◌, Bool, true, false, cond, not, List, [], ◌∷◌, ◌++◌, length, set, get_or, refl, sym, ap, ◌∙◌, subst, arith, eq-eqb, ne_eqb, le-ltb, length-set, get_or-set_same, replicate, length-append, lt-ltb, bit_or, div-add-mod'}
use Rattle.std.specs.Prelude.{◌==◌, nat_lt, nat_le}
use Rattle.std.proofs.lemmas.List.{get_or-set_other, set-get_or, get_or-replicate, length-replicate}
use Rattle.std.proofs.lemmas.Nat.{pow_pos, pow_apart, and_or_self, and_or_apart}
use Rattle.std.specs.Int.Bits.{and_zero_l}
use mathlib.Core.Logic.{dite}
use mathlib.Core.Option.{none, some, some-injective, some-ne-none}
use native.Mathlib.Decide.{ℕ_discrete, dec_le}
use lib.ListN.{get_elem?}
use Rattle.atomic_table.specs.Table.{Allows, Enters, Splits, Joins, step, keeps, stepped}
use Rattle.atomic_table.proofs.Lists.{at_set, at_snoc, set_else}
use Rattle.entities.specs.declared.phase.trace.Step.{Step}
use Rattle.entities.specs.declared.phase.trace.Step.TheVariants.{Draw, Look, Mark, Peek}
use Rattle.entities.specs.declared.phase.trace.Line.{Line}
use Rattle.entities.specs.declared.phase.plan.Plan.{Plan}
use Rattle.entities.specs.Phase.Plan.{phase_of}
use Rattle.entities.specs.Phase.Trace.{Phase, Reached, Event, Each, one_if, start, run, after, in_marks, steps_of, IsRight, AreRight, AreCalls, creates, looks, misses}
use Rattle.entities.specs.Phase.Rule.{Among, Agree, line, lines_of, total, marks_word, IsRecorded, blank_lines, first_line, other_lines, with_step, number_of, steps_in, IsOne, bit_of, IsSeen, States, Seats, IsEnded, agree, tells_draw, tells_look, tells_mark, tells_peek}
use Rattle.entities.proofs.Phases.Pushes.{steps_of-mine, steps_of-other, run-push, IsInterleaving-push, AreCalls-push, misses-push}
use Rattle.entities.proofs.Phases.Sound.{bounded, own_mark, run_grows}

total_set : (f : List Line → ℕ) (vs : List (List Line)) (i : ℕ) (v w : List Line) → get_elem? vs i ≡ some v → total f (set vs i w) + f v ≡ total f vs + f w
total_set f [] i v w e = absurd (some-ne-none v (sym e))
total_set f (x ∷ xs) zero v w e = let is : f x ≡ f v = ap f (some-injective x v e) in omega arith
total_set f (x ∷ xs) (suc i) v w e = let r = total_set f xs i v w e in omega arith

total_snoc : (f : List Line → ℕ) (vs : List (List Line)) (w : List Line) → total f (vs ++ w ∷ []) ≡ total f vs + f w
total_snoc f [] w = omega arith
total_snoc f (x ∷ xs) w = let r = total_snoc f xs w in omega arith

at_most : (f : List Line → ℕ) (vs : List (List Line)) (i : ℕ) (v : List Line) → get_elem? vs i ≡ some v → f v ≤ total f vs
at_most f [] i v e = absurd (some-ne-none v (sym e))
at_most f (x ∷ xs) zero v e = let is : f x ≡ f v = ap f (some-injective x v e) in omega arith
at_most f (x ∷ xs) (suc i) v e = let r = at_most f xs i v e in omega arith

two_of : (f : List Line → ℕ) (vs : List (List Line)) (i j : ℕ) (v u : List Line) → f [] ≡ 0 → get_elem? vs i ≡ some v → get_elem? vs j ≡ some u → j ≢ i → f v + f u ≤ total f vs
two_of f vs i j v u z a b ne = let r = total_set f vs i v [] a in let t = at_most f (set vs i []) j u (set_else vs i j [] ne ∙ b) in omega arith

-- a step of p leaves the records of others as they were
recorded_other : (p : ℕ) (s : Step) (es : List Event) (v : List Line) → lines_of p v ≡ 0 → IsRecorded es v → IsRecorded (es ++ (p, s) ∷ []) v
recorded_other p s es [] z r = tt
recorded_other p s es (x ∷ xs) z r = dite (ℕ_discrete p x.pass)
    (λ e. let t : one_if (p == x.pass) ≡ 1 = ap one_if (eq-eqb p x.pass e) in absurd (omega arith))
    (λ ne. let t : one_if (p == x.pass) ≡ 0 = ap one_if (ne_eqb p x.pass ne) in
    (steps_of-other x.pass p es s (λ h. ne (sym h)) ∙ r.0, recorded_other p s es xs (omega arith) r.1))

lines_one : (p : ℕ) (ss : List Step) → lines_of p (line p ss ∷ []) ≡ 1
lines_one p ss = let t : one_if (p == p) ≡ 1 = ap one_if (eq-eqb p p refl) in omega arith

below_one : (p n : ℕ) → one_if (nat_lt p n) ≤ 1
below_one p n = elim (nat_lt p n) as (λ (b : Bool). one_if b ≤ 1) [ true ↦ omega arith | false ↦ omega arith ]

below_pos : (p n : ℕ) → 0 < one_if (nat_lt p n) → p < n
below_pos p n h = dite (dec_le n p)
    (λ le. let t : one_if (nat_lt p n) ≡ 0 = ap one_if (le-ltb p n le) in absurd (omega arith))
    (λ gt. omega arith)

-- one more step of the pass p, after which the words are ws
kept_step : (o : Phase) (width : ℕ) (words ws : List ℕ) (views : List (List Line)) (id p : ℕ) (ss : List Step) (s : Step) (r : Agree o width words views)
    → get_elem? views id ≡ some (line p ss ∷ []) → IsRight (run start r.trace) s → AreCalls o (ss ++ s ∷ [])
    → length ws ≡ length words → get_or ws 0 0 ≡ (after (run start r.trace) s).cursor → ((w : ℕ) → w < width → get_or ws (w + 1) 0 ≡ marks_word w (after (run start r.trace) s).marks)
    → Agree o width ws (set views id (line p (ss ++ s ∷ []) ∷ []))
kept_step o width words ws views id p ss s r at right calls size cursor marks =
    let now : List Event = r.trace ++ (p, s) ∷ [] in let mine : steps_of p r.trace ≡ ss = (r.recorded id (line p ss ∷ []) at).0 in
    let own : lines_of p (line p ss ∷ []) ≡ 1 = lines_one p ss in let own' : lines_of p (line p (ss ++ s ∷ []) ∷ []) ≡ 1 = lines_one p (ss ++ s ∷ []) in
    let sum = at_most (lines_of p) views id (line p ss ∷ []) at in let all = r.once p in
    let low : p < o.passes = below_pos p o.passes (omega arith) in
    record {
      trace = now;
      leads = IsInterleaving-push o r.trace p s r.leads low right (subst (λ (k : List Step). AreCalls o (k ++ s ∷ [])) (sym mine) calls);
      count = size ∙ r.count;
      cursor = cursor ∙ ap (λ (w : Reached). w.cursor) (sym (run-push start r.trace (p, s)));
      marks = λ w h. marks w h ∙ ap (λ (k : Reached). marks_word w k.marks) (sym (run-push start r.trace (p, s)));
      recorded = λ j u e. ⊎_elim
          (λ (x : (j ≡ id) × ((line p (ss ++ s ∷ []) ∷ []) ≡ u)). subst (IsRecorded now) x.1 (steps_of-mine p p r.trace s refl ∙ ap (λ (k : List Step). k ++ s ∷ []) mine, tt))
          (λ (x : (j ≢ id) × (get_elem? views j ≡ some u)). let both = two_of (lines_of p) views id j (line p ss ∷ []) u refl at x.1 x.0 in let one = below_one p o.passes in recorded_other p s r.trace u (omega arith) (r.recorded j u x.1))
          (at_set views id j (line p (ss ++ s ∷ []) ∷ []) u e);
      once = λ q. let t = total_set (lines_of q) views id (line p ss ∷ []) (line p (ss ++ s ∷ []) ∷ []) at in let all' = r.once q in omega arith;
      whole = let t = total_set length views id (line p ss ∷ []) (line p (ss ++ s ∷ []) ∷ []) at in let all' = r.whole in omega arith;
    }

at_most_one : (b : Bool) → one_if b ≤ 1
at_most_one b = elim b as (λ (x : Bool). one_if x ≤ 1) [ true ↦ omega arith | false ↦ omega arith ]

-- the cursor is past all that a pass was told
seen_one : (w : Reached) (s : Step) (n : ℕ) → IsRight w s → (after w s).cursor ≤ n → IsSeen n s
seen_one w (Draw t) n right h = omega arith
seen_one w (Look t) n right h = omega arith
seen_one w (Mark i) n right h = tt
seen_one w (Peek i b) n right h = tt

seen_cond : (b : Bool) (n : ℕ) (s : Step) (ss : List Step) → IsSeen n s → Each (IsSeen n) ss → Each (IsSeen n) (cond b (s ∷ ss) ss)
seen_cond true n s ss h t = (h, t)
seen_cond false n s ss h t = t

all_seen : (p : ℕ) (w : Reached) (es : List Event) → AreRight w es → Each (IsSeen (run w es).cursor) (steps_of p es)
all_seen p w [] r = tt
all_seen p w (e ∷ es) r = seen_cond (p == e.0) (run w (e ∷ es)).cursor e.1 (steps_of p es) (seen_one w e.1 (run w (e ∷ es)).cursor r.0 (run_grows (after w e.1) es)) (all_seen p (after w e.1) es r.1)

-- the bits of the marks are the marks
other_bit : (i j : ℕ) → i / 64 ≡ j / 64 → i ≢ j → i % 64 ≢ j % 64
other_bit i j e ne h = ne (omega (arith, div-add-mod' i 64, div-add-mod' j 64))

bit_has : (i : ℕ) (ms : List ℕ) → bit_of i (marks_word (i / 64) ms) ≡ in_marks i ms
bit_has i [] = ap (λ (k : ℕ). not (k == 0)) (and_zero_l (2 ^ (i % 64)))
bit_has i (j ∷ js) = dite (ℕ_discrete i j)
    (λ same. subst (λ (k : ℕ). bit_of i (marks_word (i / 64) (k ∷ js)) ≡ in_marks i (k ∷ js)) same (here i js))
    (λ ne. dite (ℕ_discrete (j / 64) (i / 64))
    (λ e. ap (λ (b : Bool). bit_of i (cond b (bit_or (marks_word (i / 64) js) (2 ^ (j % 64))) (marks_word (i / 64) js))) (eq-eqb (j / 64) (i / 64) e)
    ∙ (ap (λ (k : ℕ). not (k == 0)) (and_or_apart (2 ^ (i % 64)) (marks_word (i / 64) js) (2 ^ (j % 64)) (pow_apart (j % 64) (i % 64) (other_bit j i e (λ h. ne (sym h)))))
    ∙ (bit_has i js ∙ sym (ap (λ (b : Bool). cond b true (in_marks i js)) (ne_eqb i j ne)))))
    (λ apart. ap (λ (b : Bool). bit_of i (cond b (bit_or (marks_word (i / 64) js) (2 ^ (j % 64))) (marks_word (i / 64) js))) (ne_eqb (j / 64) (i / 64) apart)
    ∙ (bit_has i js ∙ sym (ap (λ (b : Bool). cond b true (in_marks i js)) (ne_eqb i j ne)))))
  where
    here : (i : ℕ) (js : List ℕ) → bit_of i (marks_word (i / 64) (i ∷ js)) ≡ in_marks i (i ∷ js)
    here i js = ap (λ (b : Bool). bit_of i (cond b (bit_or (marks_word (i / 64) js) (2 ^ (i % 64))) (marks_word (i / 64) js))) (eq-eqb (i / 64) (i / 64) refl)
        ∙ (ap (λ (k : ℕ). not (k == 0)) (and_or_self (2 ^ (i % 64)) (marks_word (i / 64) js))
        ∙ (ap not (ne_eqb (2 ^ (i % 64)) 0 (λ h. let q = pow_pos (i % 64) in omega arith)) ∙ sym (ap (λ (b : Bool). cond b true (in_marks i js)) (eq-eqb i i refl))))

-- the four kinds of step. `one` says which pass the seat has
module _ (o : Phase) (width : ℕ) (slots id : ℕ) (me : Seats) (one : IsOne me.0) where
  p : ℕ
  p = number_of me.0

  ss : List Step
  ss = steps_in me.0

  -- the table after a step
  steps_to : (s : States) (word new : ℕ) (st : Step) (r : agree o width s) → get_elem? s.views id ≡ some me.0 → IsRight (run start r.trace) st → AreCalls o (ss ++ st ∷ [])
      → get_or (set s.words word new) 0 0 ≡ (after (run start r.trace) st).cursor → ((w : ℕ) → w < width → get_or (set s.words word new) (w + 1) 0 ≡ marks_word w (after (run start r.trace) st).marks)
      → agree o width (stepped s word new id me.1 (with_step st me.0) keeps)
  unfolding p ss
  steps_to s word new st r at right calls cursor marks =
      let at' = at ∙ ap (λ (v : List Line). some v) one in
      subst (λ (v : List Line). Agree o width (set s.words word new) (set s.views id v)) (sym (ap (with_step st) one))
      (kept_step o width s.words (set s.words word new) s.views id (number_of me.0) (steps_in me.0) st r at' right calls (length-set s.words word new) cursor marks)

  -- what the rule knows of the pass's steps
  own_steps : (s : States) (r : agree o width s) → get_elem? s.views id ≡ some me.0 → steps_of (number_of me.0) r.trace ≡ steps_in me.0
  own_steps s r at = (r.recorded id (line (number_of me.0) (steps_in me.0) ∷ []) (at ∙ ap (λ (v : List Line). some v) one)).0

  own_calls : (s : States) (r : agree o width s) → get_elem? s.views id ≡ some me.0 → AreCalls o (steps_in me.0)
  own_calls s r at = let leads = r.leads in subst (AreCalls o) (own_steps s r at) (leads.calls (number_of me.0))

  pub draws : misses (length o.reserve) (steps_in me.0) ≡ 0 → length o.reserve + o.passes + 1 < 2 ^ 64
      → Allows (agree o width) slots id me 0 (λ n. (n + 1) % 2 ^ 64) (tells_draw (step slots 0 1 0 none) me)
  unfolding p ss
  draws fresh fits s r _ at small = let n : ℕ = get_or s.words 0 0 in let is = r.cursor in let size = r.count in let low = bounded o r.trace r.leads in
      let more : (n + 1) % 18446744073709551616 ≡ n + 1 = omega arith in
      let few = misses-push (length o.reserve) (steps_in me.0) (Draw n) in let bit = at_most_one (nat_le (length o.reserve) n) in
      let calls = AreCalls-push o (steps_in me.0) (creates n) (own_calls s r at) tt (omega arith) in (
        with_step (Draw n) me.0,
        keeps,
        tt,
        steps_to s 0 ((n + 1) % 18446744073709551616) (Draw n) r at is calls
            (get_or-set_same s.words 0 ((n + 1) % 18446744073709551616) 0 (omega arith) ∙ (more ∙ ap (λ (k : ℕ). k + 1) is))
            (λ w h. get_or-set_other s.words 0 (w + 1) ((n + 1) % 18446744073709551616) 0 (λ e. omega arith) ∙ r.marks w h),
        refl,
      )

  -- a load changes no word
  loads : (s : States) (word : ℕ) (st : Step) (r : agree o width s) → get_elem? s.views id ≡ some me.0 → IsRight (run start r.trace) st → AreCalls o (steps_in me.0 ++ st ∷ [])
      → (after (run start r.trace) st).cursor ≡ (run start r.trace).cursor → (after (run start r.trace) st).marks ≡ (run start r.trace).marks → word < width + 1
      → agree o width (stepped s word (get_or s.words word 0) id me.1 (with_step st me.0) keeps)
  unfolding p ss
  loads s word st r at right calls same_cursor same_marks within = let back : set s.words word (get_or s.words word 0) ≡ s.words = set-get_or s.words word 0 in
      steps_to s word (get_or s.words word 0) st r at right calls
      (ap (λ (l : List ℕ). get_or l 0 0) back ∙ (r.cursor ∙ sym same_cursor))
      (λ w h. ap (λ (l : List ℕ). get_or l (w + 1) 0) back ∙ (r.marks w h ∙ ap (marks_word w) (sym same_marks)))

  pub looks_on : Allows (agree o width) slots id me 0 (λ n. n) (tells_look (step slots 0 0 0 none) me)
  looks_on s r _ at small = let n : ℕ = get_or s.words 0 0 in let few = misses-push (length o.reserve) (steps_in me.0) (Look n) in let c = own_calls s r at in let spent = c.spent in
      let calls = AreCalls-push o (steps_in me.0) (looks n) c tt (omega arith) in (
        with_step (Look n) me.0,
        keeps,
        tt,
        loads s 0 (Look n) r at r.cursor calls refl refl (omega arith),
        (refl, subst (Each (IsSeen n)) (own_steps s r at) (subst (λ (k : ℕ). Each (IsSeen k) (steps_of (number_of me.0) r.trace)) (sym r.cursor) (all_seen (number_of me.0) start r.trace r.leads.right))),
      )

  pub marks_on : (i : ℕ) → i / 64 < width → AreCalls o (steps_in me.0 ++ Mark i ∷ [])
      → Allows (agree o width) slots id me (i / 64 + 1) (λ n. bit_or n (2 ^ (i % 64))) (tells_mark i (step slots (i / 64 + 1) (2 ^ (i % 64)) 0 none) me)
  unfolding p ss
  marks_on i within calls s r _ at small = let word : ℕ = i / 64 + 1 in let n : ℕ = get_or s.words word 0 in let new : ℕ = bit_or n (2 ^ (i % 64)) in let size = r.count in (
    with_step (Mark i) me.0,
    keeps,
    tt,
    steps_to s word new (Mark i) r at tt calls
        (get_or-set_other s.words word 0 new 0 (λ e. omega arith) ∙ r.cursor)
        (λ w h. dite (ℕ_discrete (i / 64) w)
        (λ e. subst (λ (k : ℕ). get_or (set s.words word new) (k + 1) 0 ≡ marks_word k (i ∷ (run start r.trace).marks)) e
        (get_or-set_same s.words word new 0 (omega arith) ∙ (ap (λ (k : ℕ). bit_or k (2 ^ (i % 64))) (r.marks (i / 64) within)
        ∙ sym (ap (λ (b : Bool). cond b (bit_or (marks_word (i / 64) (run start r.trace).marks) (2 ^ (i % 64))) (marks_word (i / 64) (run start r.trace).marks)) (eq-eqb (i / 64) (i / 64) refl)))))
        (λ ne. get_or-set_other s.words word (w + 1) new 0 (λ e. ne (omega arith)) ∙ (r.marks w h
        ∙ sym (ap (λ (b : Bool). cond b (bit_or (marks_word w (run start r.trace).marks) (2 ^ (i % 64))) (marks_word w (run start r.trace).marks)) (ne_eqb (i / 64) w ne))))),
    refl,
  )

  pub peeks_on : (i : ℕ) → i / 64 < width → ((b : Bool) → AreCalls o (steps_in me.0 ++ Peek i b ∷ []))
      → Allows (agree o width) slots id me (i / 64 + 1) (λ n. n) (tells_peek i (step slots (i / 64 + 1) 0 0 none) me)
  unfolding p ss
  peeks_on i within calls s r _ at small = let word : ℕ = i / 64 + 1 in let n : ℕ = get_or s.words word 0 in (
    with_step (Peek i (bit_of i n)) me.0,
    keeps,
    tt,
    loads s word (Peek i (bit_of i n)) r at (ap (bit_of i) (r.marks (i / 64) within) ∙ bit_has i (run start r.trace).marks) (calls (bit_of i n)) refl refl (omega arith),
    (refl, λ a. ap (bit_of i) (r.marks (i / 64) within) ∙ bit_has i (run start r.trace).marks ∙ own_mark i (number_of me.0) start r.trace (subst (Among (Mark i)) (sym (own_steps s r at)) a)),
  )

-- cutting one pass's line off a record
lines_cut : (p : ℕ) (v : List Line) → lines_of p (first_line v) + lines_of p (other_lines v) ≡ lines_of p v
lines_cut p [] = refl
lines_cut p (x ∷ xs) = omega arith

length_cut : (v : List Line) → length (first_line v) + length (other_lines v) ≡ length v
length_cut [] = refl
length_cut (x ∷ xs) = omega arith

recorded_cut : (es : List Event) (v : List Line) → IsRecorded es v → IsRecorded es (first_line v) × IsRecorded es (other_lines v)
recorded_cut es [] r = (tt, tt)
recorded_cut es (x ∷ xs) r = ((r.0, tt), r.1)

pub cuts : (o : Phase) (width id : ℕ) (v : List Line) → Splits (agree o width) id v (other_lines v) (first_line v)
cuts o width id v s r at = let parts = recorded_cut r.trace v (r.recorded id v at) in record {
  trace = r.trace;
  leads = r.leads;
  count = r.count;
  cursor = r.cursor;
  marks = r.marks;
  recorded = λ j u e. ⊎_elim
      (λ was. ⊎_elim (λ (x : (j ≡ id) × (other_lines v ≡ u)). subst (IsRecorded r.trace) x.1 parts.1) (λ (x : (j ≢ id) × (get_elem? s.views j ≡ some u)). r.recorded j u x.1) (at_set s.views id j (other_lines v) u was))
      (λ (same : first_line v ≡ u). subst (IsRecorded r.trace) same parts.0)
      (at_snoc (set s.views id (other_lines v)) (first_line v) u j e);
  once = λ q. let a = total_snoc (lines_of q) (set s.views id (other_lines v)) (first_line v) in let b = total_set (lines_of q) s.views id v (other_lines v) at in let c = lines_cut q v in let all = r.once q in omega arith;
  whole = let a = total_snoc length (set s.views id (other_lines v)) (first_line v) in let b = total_set length s.views id v (other_lines v) at in let c = length_cut v in let all = r.whole in omega arith;
}

-- joining two records
lines_append : (p : ℕ) (v w : List Line) → lines_of p (v ++ w) ≡ lines_of p v + lines_of p w
lines_append p [] w = omega arith
lines_append p (x ∷ xs) w = let r = lines_append p xs w in omega arith

recorded_append : (es : List Event) (v w : List Line) → IsRecorded es v → IsRecorded es w → IsRecorded es (v ++ w)
recorded_append es [] w a b = b
recorded_append es (x ∷ xs) w a b = (a.0, recorded_append es xs w a.1 b)

pub joins : (o : Phase) (width id : ℕ) (v : List Line) (other : ℕ) (w : List Line) → Joins (agree o width) id v other w (w ++ v) []
joins o width id v other w s r at apart there =
    let theirs : get_elem? s.views other ≡ some w = sym (set_else s.views id other (w ++ v) apart) ∙ there in
    let mine = recorded_append r.trace w v (r.recorded other w theirs) (r.recorded id v at) in record {
      trace = r.trace;
      leads = r.leads;
      count = r.count;
      cursor = r.cursor;
      marks = r.marks;
      recorded = λ j u e. ⊎_elim
          (λ (x : (j ≡ other) × ([] ≡ u)). subst (IsRecorded r.trace) x.1 tt)
          (λ (x : (j ≢ other) × (get_elem? (set s.views id (w ++ v)) j ≡ some u)). ⊎_elim
          (λ (y : (j ≡ id) × ((w ++ v) ≡ u)). subst (IsRecorded r.trace) y.1 mine)
          (λ (y : (j ≢ id) × (get_elem? s.views j ≡ some u)). r.recorded j u y.1)
          (at_set s.views id j (w ++ v) u x.1))
          (at_set (set s.views id (w ++ v)) other j [] u e);
      once = λ q. let a = total_set (lines_of q) (set s.views id (w ++ v)) other w [] there in let b = total_set (lines_of q) s.views id v (w ++ v) at in let c = lines_append q w v in let all = r.once q in omega arith;
      whole = let a = total_set length (set s.views id (w ++ v)) other w [] there in let b = total_set length s.views id v (w ++ v) at in let c = length-append w v in let all = r.whole in omega arith;
    }

-- the table at the opening
below_more : (p k : ℕ) → one_if (p == k) + one_if (nat_lt p k) ≡ one_if (nat_lt p (k + 1))
below_more p k = dite (ℕ_discrete p k)
    (λ e. let a = ap one_if (eq-eqb p k e) in let b = ap one_if (le-ltb p k (omega arith)) in let c = ap one_if (lt-ltb p (k + 1) (omega arith)) in omega arith)
    (λ ne. let a = ap one_if (ne_eqb p k ne) in dite (dec_le k p)
    (λ le. let b = ap one_if (le-ltb p k le) in let c = ap one_if (le-ltb p (k + 1) (omega arith)) in omega arith)
    (λ gt. let b = ap one_if (lt-ltb p k (omega arith)) in let c = ap one_if (lt-ltb p (k + 1) (omega arith)) in omega arith))

blank_once : (p k n : ℕ) → lines_of p (blank_lines k n) + one_if (nat_lt p k) ≡ one_if (nat_lt p (k + n))
blank_once p k zero = let e = ap (λ (m : ℕ). one_if (nat_lt p m)) (let e : k ≡ k + 0 = omega arith in e) in omega arith
blank_once p k (suc n) = let r = blank_once p (k + 1) n in let a = below_more p k in let e = ap (λ (m : ℕ). one_if (nat_lt p m)) (let e : k + 1 + n ≡ k + suc n = omega arith in e) in omega arith

blank_length : (k n : ℕ) → length (blank_lines k n) ≡ n
blank_length k zero = refl
blank_length k (suc n) = ap suc (blank_length (k + 1) n)

blank_recorded : (k n : ℕ) → IsRecorded [] (blank_lines k n)
blank_recorded k zero = tt
blank_recorded k (suc n) = (refl, blank_recorded (k + 1) n)

no_calls : (o : Phase) → AreCalls o []
no_calls o = record { calls = []; same = refl; legal = tt; spent = omega arith }

pub opens : (o : Phase) (width : ℕ) → Agree o width (0 ∷ replicate width 0) (blank_lines 0 o.passes ∷ [])
opens o width = record {
  trace = [];
  leads = record { right = tt; calls = λ p. no_calls o; numbers = tt };
  count = let e = length-replicate {A = ℕ} width 0 in omega arith;
  cursor = refl;
  marks = λ w h. ap (λ (k : ℕ). get_or (0 ∷ replicate width 0) k 0) (let e : w + 1 ≡ suc w = omega arith in e) ∙ get_or-replicate width w 0 0 h;
  recorded = first_recorded;
  once = λ p. let r = blank_once p 0 o.passes in let z = ap one_if (le-ltb p 0 (omega arith)) in let e = ap (λ (m : ℕ). one_if (nat_lt p m)) (let e : 0 + o.passes ≡ o.passes = omega arith in e) in omega arith;
  whole = let e = blank_length 0 o.passes in omega arith;
}
  where
    first_recorded : (id : ℕ) (v : List Line) → get_elem? (blank_lines 0 o.passes ∷ []) id ≡ some v → IsRecorded [] v
    first_recorded zero v e = subst (IsRecorded []) (some-injective (blank_lines 0 o.passes) v e) (blank_recorded 0 o.passes)
    first_recorded (suc id) v e = absurd (some-ne-none v (sym e))

-- the table at the end
total_le : (f g : List Line → ℕ) (vs : List (List Line)) → ((v : List Line) → f v ≤ g v) → total f vs ≤ total g vs
total_le f g [] h = omega arith
total_le f g (x ∷ xs) h = let r = total_le f g xs h in let t = h x in omega arith

lines_le : (p : ℕ) (v : List Line) → lines_of p v ≤ length v
lines_le p [] = omega arith
lines_le p (x ∷ xs) = let r = lines_le p xs in let t = at_most_one (p == x.pass) in omega arith

all_back : (passes : ℕ) (es : List Event) (v : List Line) → ((p : ℕ) → lines_of p v ≡ one_if (nat_lt p passes)) → Each (λ e. e.0 < passes) es → Each (λ e. lines_of e.0 v ≡ 1) es
all_back passes [] v h b = tt
all_back passes (e ∷ es) v h b = (h e.0 ∙ ap one_if (lt-ltb e.0 passes b.0), all_back passes es v h b.1)

pub ends : (o : Phase) (width : ℕ) (words : List ℕ) (views : List (List Line)) (id : ℕ) (v : List Line) → Agree o width words views → get_elem? views id ≡ some v → IsEnded o width words v
ends o width words views id v r at = record {
  trace = r.trace;
  leads = r.leads;
  count = r.count;
  cursor = r.cursor;
  marks = λ i h. ap (bit_of i) (r.marks (i / 64) h) ∙ bit_has i (run start r.trace).marks;
  recorded = r.recorded id v at;
  once = λ p. let m = at_most (lines_of p) views id v at in let all = r.once p in let low = below_one p o.passes in omega arith;
  complete = λ full. let leads = r.leads in all_back o.passes r.trace v
      (λ p. let a = total_set (lines_of p) views id v [] at in let b = total_set length views id v [] at in let c = total_le (lines_of p) length (set views id []) (lines_le p) in let d = r.once p in let e = r.whole in omega arith) leads.numbers;
}

-- the steps at the key of a table, which is its plan
pub draws_at : (plan key : Plan) (slots id : ℕ) (me : Seats) → plan ≡ key → IsOne me.0 → misses (length plan.reserve.items) (steps_in me.0) ≡ 0 → length plan.reserve.items + plan.passes + 1 < 2 ^ 64
    → Allows (agree (phase_of key) key.width) slots id me 0 (λ n. (n + 1) % 2 ^ 64) (tells_draw (step slots 0 1 0 none) me)
draws_at plan key slots id me same one fresh fits = subst (λ (k : Plan). Allows (agree (phase_of k) k.width) slots id me 0 (λ n. (n + 1) % 2 ^ 64) (tells_draw (step slots 0 1 0 none) me)) same (draws (phase_of plan) plan.width slots id me one fresh fits)

pub looks_at : (plan key : Plan) (slots id : ℕ) (me : Seats) → plan ≡ key → IsOne me.0 → Allows (agree (phase_of key) key.width) slots id me 0 (λ n. n) (tells_look (step slots 0 0 0 none) me)
looks_at plan key slots id me same one = subst (λ (k : Plan). Allows (agree (phase_of k) k.width) slots id me 0 (λ n. n) (tells_look (step slots 0 0 0 none) me)) same (looks_on (phase_of plan) plan.width slots id me one)

pub marks_at : (plan key : Plan) (slots id : ℕ) (me : Seats) (i word bit : ℕ) → plan ≡ key → IsOne me.0 → i / 64 < plan.width → AreCalls (phase_of plan) (steps_in me.0 ++ Mark i ∷ []) → word ≡ i / 64 + 1 → bit ≡ 2 ^ (i % 64)
    → Allows (agree (phase_of key) key.width) slots id me word (λ n. bit_or n bit) (tells_mark i (step slots word bit 0 none) me)
marks_at plan key slots id me i word bit same one within calls at_word at_bit = subst (λ (z : Plan × ℕ × ℕ). Allows (agree (phase_of z.0) (z.0).width) slots id me z.1 (λ n. bit_or n z.2) (tells_mark i (step slots z.1 z.2 0 none) me)) (λ j. (same j, sym at_word j, sym at_bit j)) (marks_on (phase_of plan) plan.width slots id me one i within calls)

pub peeks_at : (plan key : Plan) (slots id : ℕ) (me : Seats) (i word : ℕ) → plan ≡ key → IsOne me.0 → i / 64 < plan.width → ((b : Bool) → AreCalls (phase_of plan) (steps_in me.0 ++ Peek i b ∷ [])) → word ≡ i / 64 + 1
    → Allows (agree (phase_of key) key.width) slots id me word (λ n. n) (tells_peek i (step slots word 0 0 none) me)
peeks_at plan key slots id me i word same one within calls at_word = subst (λ (z : Plan × ℕ). Allows (agree (phase_of z.0) (z.0).width) slots id me z.1 (λ n. n) (tells_peek i (step slots z.1 0 0 none) me)) (λ j. (same j, sym at_word j)) (peeks_on (phase_of plan) plan.width slots id me one i within calls)

pub opens_at : (plan : Plan) (words : List ℕ) → words ≡ replicate (plan.width + 1) 0 → Agree (phase_of plan) plan.width words (blank_lines 0 plan.passes ∷ [])
opens_at plan words is = subst (λ (w : List ℕ). Agree (phase_of plan) plan.width w (blank_lines 0 plan.passes ∷ [])) (sym (is ∙ ap (λ (k : ℕ). replicate k 0) (let e : plan.width + 1 ≡ suc plan.width = omega arith in e))) (opens (phase_of plan) plan.width)

pub sits : (o : Phase) (width slots : ℕ) → Enters (agree o width) slots 0 (λ n w. w ≡ [])
sits o width slots s r _ _ = (
  [],
  record {
    trace = r.trace;
    leads = r.leads;
    count = r.count;
    cursor = r.cursor;
    marks = r.marks;
    recorded = λ j u e. ⊎_elim (λ was. r.recorded j u was) (λ (same : [] ≡ u). subst (IsRecorded r.trace) same tt) (at_snoc s.views [] u j e);
    once = λ q. let a = total_snoc (lines_of q) s.views [] in let all = r.once q in omega arith;
    whole = let a = total_snoc length s.views [] in let all = r.whole in omega arith;
  },
  refl,
)
