-- What the passes of a phase were given, and what they marked.
use Rattle.std.proofs.Common.{◌≡◌, ◌≢◌, ◌⊎◌, ⊎_elim, inl, inr, ℕ, zero, suc, ◌+◌, ◌<◌, ◌≤◌, Bool, true, ◌||◌, cond, eqb, List, [], ◌∷◌, ◌++◌, length, get_or, take, min, pos, refl, sym, ap, ◌∙◌, subst, arith, eq-eqb, ne_eqb, Some, None, Option}
use Rattle.std.proofs.Math.Bool.{or-true}
use Rattle.std.specs.Prelude.{slice_get, flat_map, false}
use Rattle.std.specs.Option.{option_to_list}
use Rattle.std.specs.List.{All, Contains}
use Rattle.std.proofs.lemmas.Bool.{cases_lt, lt-ltb}
use Rattle.std.proofs.lemmas.Grind.{flat_map-append}
use Rattle.std.proofs.lemmas.List.{append-nil, get_or-take, length-take-le}
use Rattle.std.proofs.lemmas.List.Folds.{list_any_at}
use Rattle.std.proofs.lemmas.Option.{slice_get-get_or, slice_get_past}
use mathlib.Core.Logic.{dite}
use native.Mathlib.Decide.{ℕ_discrete}
use Rattle.entities.specs.declared.entity.Entity.{Entity}
use Rattle.entities.specs.declared.phase.board.Board.{Board}
use Rattle.entities.specs.declared.phase.pass.Pass.{Pass}
use Rattle.entities.specs.declared.phase.trace.Line.{Line}
use Rattle.entities.specs.declared.phase.trace.Step.{Step}
use Rattle.entities.specs.declared.phase.trace.Step.TheVariants.{Draw, Look, Mark, Peek}
use Rattle.entities.specs.Population.{Population, IsAlive}
use Rattle.entities.specs.Phase.Reserve.{IsReserve, AreApart, with_births, with_marks}
use Rattle.entities.specs.Deaths.{has_index}
use Rattle.entities.specs.Phase.Trace.{Phase, Reached, Event, Each, start, run, after, in_marks, steps_of, IsRight, AreRight, one_if, given_to}
use Rattle.entities.specs.Phase.Rule.{IsSeen, Among, AmongLines, IsRecorded, IsOne, lines_of, line}
use Rattle.entities.specs.Phase.Board.{AreFresh, IsPassOf, IsNext, record_of, steps_of_pass, number_of_pass}
use Rattle.entities.specs.Phase.Plan.{phase_of}
use Rattle.entities.specs.Census.{Census}
use Rattle.entities.specs.Phase.Calls.{IsOpen, IsClosed, AliveSteps, MarkSteps, PendingSteps}
use Rattle.entities.specs.Phase.Given.{given_of, marks_of, marks_of_step, IsBlank, Gains, AreGivenOnce, AreTakenUp}
use Rattle.entities.proofs.Phases.Ends.{each_back, pass_lines}
use Rattle.entities.proofs.Phases.Calls.{among_left}
use Rattle.entities.proofs.Phases.Passes.{all_from_each}
use Rattle.entities.proofs.Phases.Reserve.{slice_get_within, slice_get_is, reserve_apart}
use Rattle.entities.proofs.Phases.Tickets.{apart, not_below}

-- ---- what a call adds
pub gains : (o : Phase) (old new : Pass) (added : List Step) → IsNext old new added → Gains o old new (flat_map (given_to o.reserve) added) (flat_map marks_of_step added)
unfolding given_of marks_of
gains o old new added next = record {
  given = ap (flat_map (given_to o.reserve)) next.steps ∙ flat_map-append (given_to o.reserve) (steps_of_pass old) added;
  marks = ap (flat_map marks_of_step) next.steps ∙ flat_map-append marks_of_step (steps_of_pass old) added;
  seen = λ e saw. elim saw [
    | inl s ↦ inl (s.0, s.1, s.2, subst (Among s.1) (sym next.steps) (among_left s.1 (steps_of_pass old) added s.3), s.4)
    | inr s ↦ inr s
  ];
}

pub gains_none : (o : Phase) (pass : Pass) → Gains o pass pass [] []
gains_none o pass = record { given = sym (append-nil (given_of o pass)); marks = sym (append-nil (marks_of pass)); seen = λ e saw. saw }

pub gains_draw : (o : Phase) (old new : Pass) (t : ℕ) (e : Entity) → IsNext old new (Draw t ∷ []) → slice_get o.reserve t ≡ Some e → Gains o old new (e ∷ []) []
gains_draw o old new t e next at = subst (λ (x : Option Entity). Gains o old new (option_to_list x ++ []) []) at (gains o old new (Draw t ∷ []) next)

pub gains_miss : (o : Phase) (old new : Pass) (t : ℕ) → IsNext old new (Draw t ∷ []) → length o.reserve ≤ t → Gains o old new [] []
gains_miss o old new t next past = subst (λ (x : Option Entity). Gains o old new (option_to_list x ++ []) []) (slice_get_past o.reserve t past) (gains o old new (Draw t ∷ []) next)

pub blank : (o : Phase) (pass : Pass) → steps_of_pass pass ≡ [] → IsBlank o pass
unfolding given_of marks_of
blank o pass none = record { given = ap (flat_map (given_to o.reserve)) none; marks = ap (flat_map marks_of_step) none }

pub fresh_blank : (board : Board) (k : ℕ) (ps : List Pass) → AreFresh board k ps → Each (IsBlank (phase_of board.plan)) ps
fresh_blank board k [] h = tt
fresh_blank board k (x ∷ xs) h = (blank (phase_of board.plan) x h.2, fresh_blank board (k + 1) xs h.4)

pub alive_gains : (board : Board) (old new : Pass) (e : Entity) (b : Bool) → AliveSteps board old new e b → Gains (phase_of board.plan) old new [] []
alive_gains board old new e b h = elim h [
  | inl s ↦ gains (phase_of board.plan) old new (Look s.1 ∷ []) s.3
  | inr s ↦ subst (λ (p : Pass). Gains (phase_of board.plan) old p [] []) (sym s.1) (gains_none (phase_of board.plan) old)
]

pub mark_gains : (board : Board) (old new : Pass) (e : Entity) → MarkSteps board old new e → Gains (phase_of board.plan) old new [] (e.0 ∷ [])
mark_gains board old new e h = elim h [
  | inl s ↦ gains (phase_of board.plan) old new (Look s.1 ∷ Mark e.0 ∷ []) s.4
  | inr s ↦ gains (phase_of board.plan) old new (Mark e.0 ∷ []) s.2
]

pub pending_gains : (board : Board) (old new : Pass) (e : Entity) (b : Bool) → PendingSteps board old new e b → Gains (phase_of board.plan) old new [] []
pending_gains board old new e b h = elim h [
  | inl s ↦ alive_gains board old new e false s.0
  | inr t ↦ elim t [
    | inl s ↦ gains (phase_of board.plan) old new (Look s.1 ∷ Peek e.0 s.2 ∷ []) s.5
    | inr s ↦ gains (phase_of board.plan) old new (Peek e.0 s.0 ∷ []) s.3
  ]
]

-- ---- what was given, by its ticket
Ticketed : List Entity → List Step → Entity → Type 0
Ticketed es ss e = (t : ℕ) × Among (Draw t) ss × (slice_get es t ≡ Some e)

each_append : {X : Type 0} (P : X → Type 0) (xs ys : List X) → Each P xs → Each P ys → Each P (xs ++ ys)
each_append P [] ys h k = k
each_append P (x ∷ xs) ys h k = (h.0, each_append P xs ys h.1 k)

each_map : {X : Type 0} (P Q : X → Type 0) (xs : List X) → ((x : X) → P x → Q x) → Each P xs → Each Q xs
each_map P Q [] f h = tt
each_map P Q (x ∷ xs) f h = (f x h.0, each_map P Q xs f h.1)

each_option : {X : Type 0} (P : X → Type 0) (o : Option X) → ((x : X) → o ≡ Some x → P x) → Each P (option_to_list o)
each_option P None f = tt
each_option P (Some x) f = (f x refl, tt)

ticketed : (es : List Entity) (all ss : List Step) → ((t : ℕ) → Among (Draw t) ss → Among (Draw t) all) → Each (Ticketed es all) (flat_map (given_to es) ss)
unfolding Ticketed Among
ticketed es all [] f = tt
ticketed es all (Draw n ∷ ss) f = each_append (Ticketed es all) (option_to_list (slice_get es n)) (flat_map (given_to es) ss)
    (each_option (Ticketed es all) (slice_get es n) (λ e at. (n, f n (inl refl), at)))
    (ticketed es all ss (λ t h. f t (inr h)))
ticketed es all (Look n ∷ ss) f = ticketed es all ss (λ t h. f t (inr h))
ticketed es all (Mark i ∷ ss) f = ticketed es all ss (λ t h. f t (inr h))
ticketed es all (Peek i b ∷ ss) f = ticketed es all ss (λ t h. f t (inr h))

pass_ticketed : (o : Phase) (pass : Pass) → Each (Ticketed o.reserve (steps_of_pass pass)) (given_of o pass)
unfolding given_of
pass_ticketed o pass = ticketed o.reserve (steps_of_pass pass) (steps_of_pass pass) (λ t h. h)

marked_steps : (all ss : List Step) → ((i : ℕ) → Among (Mark i) ss → Among (Mark i) all) → Each (λ i. Among (Mark i) all) (flat_map marks_of_step ss)
unfolding Among
marked_steps all [] f = tt
marked_steps all (Draw n ∷ ss) f = marked_steps all ss (λ i h. f i (inr h))
marked_steps all (Look n ∷ ss) f = marked_steps all ss (λ i h. f i (inr h))
marked_steps all (Mark i ∷ ss) f = (f i (inl refl), marked_steps all ss (λ i h. f i (inr h)))
marked_steps all (Peek i b ∷ ss) f = marked_steps all ss (λ i h. f i (inr h))

pub pass_marked : (pass : Pass) → Each (λ i. Among (Mark i) (steps_of_pass pass)) (marks_of pass)
unfolding marks_of
pass_marked pass = marked_steps (steps_of_pass pass) (steps_of_pass pass) (λ i h. h)

-- a pass sees alive what it was given
pub each_last : (P : Step → Type 0) (ss : List Step) (s : Step) → Each P ss → Among s ss → P s
unfolding Among
each_last P [] s h a = absurd a
each_last P (x ∷ xs) s h a = ⊎_elim (λ (here : x ≡ s). subst P here h.0) (λ (later : Among s xs). each_last P xs s h.1 later) a

pub own_alive : (board : Board) (c : Census) (old new : Pass) (e : Entity) (b : Bool) → IsOpen c board → AliveSteps board old new e b → Contains (given_of (phase_of board.plan) old) e → b ≡ true
unfolding Ticketed
own_alive board c old new e b opened steps given =
    let o = phase_of board.plan in
    let ticket : Ticketed o.reserve (steps_of_pass old) e = subst (Ticketed o.reserve (steps_of_pass old)) given.2 (all_from_each (Ticketed o.reserve (steps_of_pass old)) (given_of o old) (pass_ticketed o old) given.0 e given.1) in
    elim steps [
      | inl s ↦
          let same : s.0 ≡ ticket.0 = sym (opened.located s.0 e s.2) ∙ opened.located ticket.0 e ticket.2 in
          let seen : ticket.0 < s.1 = each_last (IsSeen s.1) (steps_of_pass old) (Draw ticket.0) s.4 ticket.1 in
          s.5 ∙ lt-ltb s.0 s.1 (omega (arith, same, seen))
      | inr s ↦ absurd (s.0 ticket.0 ticket.2)
    ]

-- two places of a reserve have two indices
pub places_apart : (p : Population) (es : List Entity) (x y : ℕ) (e f : Entity) → IsReserve p es → slice_get es x ≡ Some e → slice_get es y ≡ Some f → x ≢ y → e.0 ≢ f.0
places_apart p es x y e f r at_x at_y ne same =
    let is_x = ap (λ (z : Entity). z.0) (slice_get_is es x e e at_x) in
    let is_y = ap (λ (z : Entity). z.0) (slice_get_is es y f e at_y) in
    elim (cases_lt x y) [
      | inl less ↦ reserve_apart p es x y e r less (slice_get_within es y f at_y) (is_x ∙ same ∙ sym is_y)
      | inr more ↦ reserve_apart p es y x e r (omega (arith, more, ne)) (slice_get_within es x e at_x) (is_y ∙ sym same ∙ sym is_x)
    ]

-- ---- a pass's line in the record
recorded_at : (es : List Event) (ps : List Pass) (k : ℕ) (d : Pass) → k < length ps → IsOne (get_or ps k d).record.me.0 → IsRecorded es (record_of ps) → steps_of (number_of_pass (get_or ps k d)) es ≡ steps_of_pass (get_or ps k d)
recorded_at es [] k d lt one h = absurd (omega arith)
recorded_at es (x ∷ xs) zero d lt one h = (subst (IsRecorded es) one (each_back (λ (l : Line). steps_of l.pass es ≡ l.steps) x.record.me.0 (record_of xs) h).0).0
recorded_at es (x ∷ xs) (suc k) d lt one h = recorded_at es xs k d (omega arith) one (each_back (λ (l : Line). steps_of l.pass es ≡ l.steps) x.record.me.0 (record_of xs) h).1

lines_both : (p : ℕ) (v w : List Line) → lines_of p (v ++ w) ≡ lines_of p v + lines_of p w
lines_both p [] w = omega arith
lines_both p (x ∷ xs) w = let r = lines_both p xs w in omega arith

line_there : (v : List Line) (p : ℕ) (ss : List Step) → v ≡ line p ss ∷ [] → lines_of p v ≡ 1
line_there v p ss is = ap (lines_of p) is ∙ rw (eq-eqb p p refl) refl

lines_at : (ps : List Pass) (k : ℕ) (d : Pass) → k < length ps → IsOne (get_or ps k d).record.me.0 → 1 ≤ lines_of (number_of_pass (get_or ps k d)) (record_of ps)
lines_at [] k d lt one = absurd (omega arith)
lines_at (x ∷ xs) zero d lt one =
    let a = lines_both (number_of_pass x) x.record.me.0 (record_of xs) in
    let b = line_there x.record.me.0 (number_of_pass x) (steps_of_pass x) one in
    omega (arith, a, b)
lines_at (x ∷ xs) (suc k) d lt one =
    let a = lines_both (number_of_pass (get_or xs k d)) x.record.me.0 (record_of xs) in
    let b = lines_at xs k d (omega arith) one in
    omega (arith, a, b)

-- no two have one number
numbers_apart : (ps : List Pass) (j k : ℕ) (d : Pass) → j < k → k < length ps → IsOne (get_or ps j d).record.me.0 → IsOne (get_or ps k d).record.me.0 → ((p : ℕ) → lines_of p (record_of ps) ≤ 1) → number_of_pass (get_or ps j d) ≢ number_of_pass (get_or ps k d)
numbers_apart [] j k d less lt a b once same = absurd (omega arith)
numbers_apart (x ∷ xs) zero zero d less lt a b once same = absurd (omega arith)
numbers_apart (x ∷ xs) zero (suc k) d less lt a b once same =
    let here = line_there x.record.me.0 (number_of_pass x) (steps_of_pass x) a in
    let there = lines_at xs k d (omega arith) b in
    let both = lines_both (number_of_pass x) x.record.me.0 (record_of xs) in
    omega (arith, here, rw (← same) at there, both, once (number_of_pass x))
numbers_apart (x ∷ xs) (suc j) zero d less lt a b once same = absurd (omega arith)
numbers_apart (x ∷ xs) (suc j) (suc k) d less lt a b once same =
    numbers_apart xs j k d (omega arith) (omega arith) a b (λ p. omega (arith, lines_both p x.record.me.0 (record_of xs), once p)) same

-- ---- one pass is given no index twice
apart_cons : (x : Entity) (xs : List Entity) → Each (λ y. x.0 ≢ y.0) xs → AreApart xs → AreApart (x ∷ xs)
apart_cons x xs h r zero zero d less lt = absurd (omega arith)
apart_cons x xs h r zero (suc k) d less lt = all_from_each (λ (y : Entity). x.0 ≢ y.0) xs h k d (omega arith)
apart_cons x xs h r (suc j) zero d less lt = absurd (omega arith)
apart_cons x xs h r (suc j) (suc k) d less lt = r j k d (omega arith) (omega arith)

apart_option : (o : Option Entity) (xs : List Entity) → ((x : Entity) → o ≡ Some x → Each (λ y. x.0 ≢ y.0) xs) → AreApart xs → AreApart (option_to_list o ++ xs)
apart_option None xs h r = r
apart_option (Some x) xs h r = apart_cons x xs (h x refl) r

given_apart : (p : Population) (es : List Entity) (q : ℕ) (w : Reached) (s : Step) (ss : List Event) → IsReserve p es → IsRight w s → AreRight (after w s) ss → AreApart (flat_map (given_to es) (steps_of q ss)) → AreApart (given_to es s ++ flat_map (given_to es) (steps_of q ss))
unfolding Ticketed
given_apart p es q w (Draw n) ss r right rights rest = apart_option (slice_get es n) (flat_map (given_to es) (steps_of q ss))
    (λ x at. each_map (Ticketed es (steps_of q ss)) (λ y. x.0 ≢ y.0) (flat_map (given_to es) (steps_of q ss))
    (λ y ticket. let low = not_below ticket.0 q (after w (Draw n)) ss rights ticket.1 in places_apart p es n ticket.0 x y r at ticket.2 (omega (arith, low, right)))
    (ticketed es (steps_of q ss) (steps_of q ss) (λ t h. h)))
    rest
given_apart p es q w (Look n) ss r right rights rest = rest
given_apart p es q w (Mark i) ss r right rights rest = rest
given_apart p es q w (Peek i b) ss r right rights rest = rest

steps_apart : (p : Population) (es : List Entity) (q : ℕ) (w : Reached) (ss : List Event) → IsReserve p es → AreRight w ss → AreApart (flat_map (given_to es) (steps_of q ss))
steps_apart p es q w [] r right = λ j k d less lt. absurd (omega arith)
steps_apart p es q w (e ∷ ss) r right =
    let rest = steps_apart p es q (after w e.1) ss r right.1 in dite (ℕ_discrete q e.0)
    (λ is. subst (λ (b : Bool). AreApart (flat_map (given_to es) (cond b (e.1 ∷ steps_of q ss) (steps_of q ss)))) (sym (eq-eqb q e.0 is)) (given_apart p es q w e.1 ss r right.0 right.1 rest))
    (λ ne. subst (λ (b : Bool). AreApart (flat_map (given_to es) (cond b (e.1 ∷ steps_of q ss) (steps_of q ss)))) (sym (ne_eqb q e.0 ne)) rest)

-- ---- the passes that came back
pub given_once : (board : Board) (p before after : Population) (births marks : ℕ) (ps : List Pass) → All (IsPassOf board) ps → IsReserve p board.plan.reserve.items → IsClosed (phase_of board.plan) (record_of ps) before after births marks → AreGivenOnce (phase_of board.plan) ps
unfolding given_of Ticketed
given_once board p before after births marks ps all reserve closed =
    let o = phase_of board.plan in
    let leads = closed.leads in
    let at : (k : ℕ) (d : Pass) → k < length ps → steps_of (number_of_pass (get_or ps k d)) closed.trace ≡ steps_of_pass (get_or ps k d) = λ k d lt. let pass = all k d lt in recorded_at closed.trace ps k d lt pass.one closed.recorded in
    let tickets : (j k t : ℕ) (d : Pass) → j < k → k < length ps → Among (Draw t) (steps_of_pass (get_or ps j d)) → Among (Draw t) (steps_of_pass (get_or ps k d)) → ⊥ = λ j k t d less lt a b.
    let lt' : j < length ps = omega (arith, less, lt) in
    let pass_j = all j d lt' in
    let pass_k = all k d lt in
    apart t (number_of_pass (get_or ps j d)) (number_of_pass (get_or ps k d)) start closed.trace (numbers_apart ps j k d less lt pass_j.one pass_k.one closed.once) leads.right
    (subst (Among (Draw t)) (sym (at j d lt')) a) (subst (Among (Draw t)) (sym (at k d lt)) b) in
    record {
      tickets = tickets;
      apart = λ j k d less lt. all_from_each (λ (e : Entity). All (λ (f : Entity). e.0 ≢ f.0) (given_of o (get_or ps k d))) (given_of o (get_or ps j d))
          (each_map (Ticketed o.reserve (steps_of_pass (get_or ps j d))) (λ (e : Entity). All (λ (f : Entity). e.0 ≢ f.0) (given_of o (get_or ps k d))) (given_of o (get_or ps j d))
          (λ e a. all_from_each (λ (f : Entity). e.0 ≢ f.0) (given_of o (get_or ps k d))
          (each_map (Ticketed o.reserve (steps_of_pass (get_or ps k d))) (λ (f : Entity). e.0 ≢ f.0) (given_of o (get_or ps k d))
          (λ f b. places_apart p o.reserve a.0 b.0 e f reserve a.2 b.2 (λ same. tickets j k a.0 d less lt a.1 (subst (λ (t : ℕ). Among (Draw t) (steps_of_pass (get_or ps k d))) (sym same) b.1)))
          (pass_ticketed o (get_or ps k d))))
          (pass_ticketed o (get_or ps j d)));
      once = λ k d lt. subst (λ (ss : List Step). AreApart (flat_map (given_to o.reserve) ss)) (at k d lt) (steps_apart p o.reserve (number_of_pass (get_or ps k d)) start closed.trace reserve leads.right);
    }

step_back : (board : Board) (ps : List Pass) (s : Step) (k : ℕ) (d : Pass) → All (IsPassOf board) ps → k < length ps → Among s (steps_of_pass (get_or ps k d)) → AmongLines s (record_of ps)
unfolding AmongLines
step_back board ps s k d all lt h = let pass = all k d lt in pass_lines s ps k d lt (subst (AmongLines s) (sym pass.one) (inl h))

-- an entity of the reserve, at a place below the births
pub placed_below : (es : List Entity) (births t : ℕ) (e : Entity) → slice_get es t ≡ Some e → t < births → births ≤ length es → has_index (take births es) e.0 ≡ true
placed_below es births t e at low le =
    let len = length-take-le births es le in
    list_any_at (λ z. eqb z.0 e.0) (take births es) t e (omega (arith, len, low)) (eq-eqb _ _ (ap (λ (z : Entity). z.0) (get_or-take births es t e low ∙ slice_get_is es t e e at)))

pub taken_up : (board : Board) (before after : Population) (births marks : ℕ) (ps : List Pass) → All (IsPassOf board) ps → IsReserve before board.plan.reserve.items → IsClosed (phase_of board.plan) (record_of ps) before after births marks → AreTakenUp (phase_of board.plan) ps after
unfolding Ticketed
taken_up board before after births marks ps all reserve closed =
    let o = phase_of board.plan in
    let placed : (k : ℕ) (d : Pass) (e : Entity) → k < length ps → Ticketed o.reserve (steps_of_pass (get_or ps k d)) e → has_index (take births o.reserve) e.0 ≡ true = λ k d e lt ticket.
    let low = closed.given_are_born ticket.0 (step_back board ps (Draw ticket.0) k d all lt ticket.1) in
    let inside = slice_get_within o.reserve ticket.0 e ticket.2 in
    placed_below o.reserve births ticket.0 e ticket.2 (omega (arith, low, inside, closed.births_are)) (omega (arith, closed.births_are)) in
    let lives_then : (k : ℕ) (d : Pass) (e : Entity) → k < length ps → Ticketed o.reserve (steps_of_pass (get_or ps k d)) e → IsAlive after e = λ k d e lt ticket.
    let there = placed k d e lt ticket in
    subst (λ (q : Population). IsAlive q e) (sym closed.leaves) (last (before.merged e.0) (before.pending e.0) _ there, rw there (reserve.generation ticket.0 e ticket.2)) in
    record {
      alive = λ k d lt. all_from_each (IsAlive after) (given_of o (get_or ps k d)) (each_map (Ticketed o.reserve (steps_of_pass (get_or ps k d))) (IsAlive after) (given_of o (get_or ps k d)) (λ e ticket. lives_then k d e lt ticket) (pass_ticketed o (get_or ps k d)));
      pending = λ k d lt. all_from_each (λ (e : Entity). after.pending e.0 ≡ true) (given_of o (get_or ps k d))
          (each_map (Ticketed o.reserve (steps_of_pass (get_or ps k d))) (λ (e : Entity). after.pending e.0 ≡ true) (given_of o (get_or ps k d))
          (λ e ticket. subst (λ (q : Population). q.pending e.0 ≡ true) (sym closed.leaves) (rw (placed k d e lt ticket) (or-true (before.pending e.0))))
          (pass_ticketed o (get_or ps k d)));
      marked = λ k d lt. all_from_each (λ (i : ℕ). after.marked i ≡ true) (marks_of (get_or ps k d))
          (each_map (λ (i : ℕ). Among (Mark i) (steps_of_pass (get_or ps k d))) (λ (i : ℕ). after.marked i ≡ true) (marks_of (get_or ps k d))
          (λ i h. subst (λ (q : Population). q.marked i ≡ true) (sym closed.leaves) (rw (closed.told_are_marked i (step_back board ps (Mark i) k d all lt h)) (or-true (before.marked i))))
          (pass_marked (get_or ps k d)));
    }
  where
    last : (m r h : Bool) → h ≡ true → (m || (r || h)) ≡ true
    last true r h is = refl
    last false true h is = refl
    last false false h is = is
