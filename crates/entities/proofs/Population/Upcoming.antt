-- The entities of the next births are a reserve, and are born in their order.
use Rattle.std.proofs.Common.{◌≡◌, ◌≢◌, ℕ, zero, suc, ◌+◌, ◌-◌, ◌<◌, ◌≤◌, Bool, true, false, not, ◌&&◌, ◌||◌, cond, eqb, List, [], ◌∷◌, ◌++◌, length, get_or, take, ℤ, pos, inl, inr, refl, sym, ap, ◌∙◌, subst, arith, Some, add-one}
use Rattle.std.specs.Prelude.{slice_get}
use Rattle.std.specs.List.{count_by}
use Rattle.std.proofs.Math.Bool.{or-false}
use Rattle.std.proofs.lemmas.Bool.{cases_eq, cases_lt, cases_Bool, both_ways, ne_eqb, eq-eqb, lt-ltb, le-ltb}
use Rattle.std.specs.FinSet as set
use Rattle.std.proofs.lemmas.List.{length-take-le, take_more, same_from_push, length_push, take-append-le, take_all, get_or_push, get_or_append_left}
use Rattle.std.proofs.lemmas.List.Sums.{sum_by-cons}
use Rattle.std.proofs.lemmas.List.Folds.{list_any-append}
use Rattle.std.proofs.lemmas.Option.{slice_get-get_or, slice_get_past}
use Rattle.hibits.specs.declared.limits.TheConstants.{INDEX_LIMIT}
use Rattle.entities.specs.declared.entity.Entity.{Entity}
use Rattle.entities.specs.Census.{Census, population, births_of, living_of}
use Rattle.entities.specs.Population.{Population, MayBeBorn, NoneFree, IsLeastUnused, is_free, born_pending}
use Rattle.entities.specs.Deaths.{has_index}
use Rattle.entities.specs.Kept.{IsStacked, SameBut, free_at}
use Rattle.entities.specs.Upcoming.{next_index, next_entity, upcoming}
use Rattle.entities.specs.Phase.Reserve.{IsReserve, with_births}
use Rattle.entities.proofs.Kept.Sets.{same_population, free_is}
use Rattle.entities.proofs.Kept.Stack.{within, born_in, unborn_past}

-- ---- places in a list, and how often a number stands there
one_more : (b : Bool) (n : ℕ) → n ≤ cond b 1 0 + n
one_more true n = omega arith
one_more false n = omega arith

count_cons : (y x : ℕ) (ys : List ℕ) → count_by (λ z. eqb z x) (y ∷ ys) ≡ cond (eqb y x) 1 0 + count_by (λ z. eqb z x) ys
count_cons y x ys = sum_by-cons (λ z. cond (eqb z x) 1 0) y ys

hit : (y x : ℕ) → y ≡ x → cond {A = ℕ} (eqb y x) 1 0 ≡ 1
hit y x e = rw (eq-eqb y x e) refl

miss : (y x : ℕ) → y ≢ x → cond {A = ℕ} (eqb y x) 1 0 ≡ 0
miss y x d = rw (ne_eqb y x d) refl

pub count_here : (xs : List ℕ) (k x : ℕ) → k < length xs → get_or xs k 0 ≡ x → 1 ≤ count_by (λ y. eqb y x) xs
count_here [] k x lt e = absurd (omega arith)
count_here (y ∷ ys) zero x lt e = let q = count_cons y x ys in let t = hit y x e in omega arith
count_here (y ∷ ys) (suc k) x lt e = let q = count_cons y x ys in let r = count_here ys k x (omega arith) e in let m = one_more (eqb y x) (count_by (λ y. eqb y x) ys) in omega arith

count_two : (xs : List ℕ) (j k x : ℕ) → j < k → k < length xs → get_or xs j 0 ≡ x → get_or xs k 0 ≡ x → 2 ≤ count_by (λ y. eqb y x) xs
count_two [] j k x less lt a b = absurd (omega arith)
count_two (y ∷ ys) j zero x less lt a b = absurd (omega arith)
count_two (y ∷ ys) zero (suc k) x less lt a b = let q = count_cons y x ys in let t = hit y x a in let r = count_here ys k x (omega arith) b in omega arith
count_two (y ∷ ys) (suc j) (suc k) x less lt a b = let q = count_cons y x ys in let r = count_two ys j k x (omega arith) (omega arith) a b in let m = one_more (eqb y x) (count_by (λ y. eqb y x) ys) in omega arith

found : (xs : List ℕ) (x : ℕ) → 0 < count_by (λ y. eqb y x) xs → (k : ℕ) × (k < length xs) × (get_or xs k 0 ≡ x)
found [] x h = absurd (omega arith)
found (y ∷ ys) x h = elim (cases_eq y x) [
  | inl e ↦ (0, omega arith, e)
  | inr d ↦
      let q = count_cons y x ys in
      let t = miss y x d in
      let r = found ys x (omega arith) in
      (suc r.0, omega (arith, r.1), r.2)
]

is_one : (b : Bool) → 1 ≤ cond b 1 0 → b ≡ true
is_one true h = refl
is_one false h = absurd (omega (arith, h))

at_most_one : (b : Bool) → cond b 1 0 ≤ 1
at_most_one true = omega arith
at_most_one false = omega arith

-- what stands in the stack is free, and stands there once
pub stack_free : (gs : List ℤ) (free : List ℕ) (k : ℕ) → IsStacked gs free → k < length free → free_at (get_or gs (get_or free k 0) (pos 0)) ≡ true
stack_free gs free k s lt = is_one _ (omega (arith, s.listed (get_or free k 0), count_here free k (get_or free k 0) lt refl))

stack_apart : (gs : List ℤ) (free : List ℕ) (j k : ℕ) → IsStacked gs free → j < k → k < length free → get_or free j 0 ≢ get_or free k 0
stack_apart gs free j k s less lt e =
    let x = get_or free k 0 in
    omega (arith, s.listed x, count_two free j k x less lt e refl, at_most_one (free_at (get_or gs x (pos 0))))

-- ---- the next indices
pub next_low : (c : Census) (t : ℕ) → t < length c.free → next_index c t ≡ get_or c.free (length c.free - 1 - t) 0
next_low c t lt = rw (lt-ltb t (length c.free) lt) refl

pub next_high : (c : Census) (t : ℕ) → length c.free ≤ t → next_index c t ≡ length c.generations + (t - length c.free)
next_high c t le = rw (le-ltb t (length c.free) le) refl

next_born : (c : Census) (t : ℕ) → IsStacked c.generations c.free → t < length c.free → next_index c t < length c.generations
next_born c t s lt = rw (next_low c t lt) (within c.generations _ (stack_free c.generations c.free (length c.free - 1 - t) s (omega arith)))

pub next_apart : (c : Census) (s t : ℕ) → IsStacked c.generations c.free → s < t → next_index c s ≢ next_index c t
next_apart c s t k less e = elim (cases_lt t (length c.free)) [
  | inl low ↦
      let a = next_low c s (omega arith) in
      let b = next_low c t low in
      stack_apart c.generations c.free (length c.free - 1 - t) (length c.free - 1 - s) k (omega arith) (omega arith) (sym b ∙ sym e ∙ a)
  | inr high ↦ elim (cases_lt s (length c.free)) [
    | inl low ↦ omega (arith, e, next_born c s k low, next_high c t high)
    | inr past ↦ omega (arith, e, next_high c s past, next_high c t high)
  ]
]

-- ---- the list of the next entities
pub upcoming_length : (c : Census) (n : ℕ) → length (upcoming c n) ≡ n
upcoming_length c zero = refl
upcoming_length c (suc n) = let e = upcoming_length c n in omega (arith, length_push (upcoming c n) (next_entity c n))

pub upcoming_at : (c : Census) (n t : ℕ) (d : Entity) → t < n → get_or (upcoming c n) t d ≡ next_entity c t
upcoming_at c zero t d lt = absurd (omega arith)
upcoming_at c (suc n) t d lt = elim (cases_eq t n) [
  | inl e ↦ get_or_push (upcoming c n) (next_entity c n) d t (upcoming_length c n ∙ sym e) ∙ ap (next_entity c) (sym e)
  | inr o ↦
      let less : t < n = omega (arith, o) in
      get_or_append_left (upcoming c n) (next_entity c n ∷ []) d t (rw (upcoming_length c n) less) ∙ upcoming_at c n t d less
]

pub upcoming_take : (c : Census) (n k : ℕ) → k ≤ n → take k (upcoming c n) ≡ upcoming c k
upcoming_take c zero k le = let z : k ≡ 0 = omega arith in rw z refl
upcoming_take c (suc n) k le = elim (cases_eq k (suc n)) [
  | inl e ↦ rw e (take_all (suc n) (upcoming c (suc n)) (omega (arith, upcoming_length c (suc n))))
  | inr o ↦
      let less : k ≤ n = omega (arith, o) in
      take-append-le k (upcoming c n) (next_entity c n ∷ []) (omega (arith, upcoming_length c n)) ∙ upcoming_take c n k less
]

pub some_same : (a b : Entity) → Some a ≡ Some b → a ≡ b
some_same a b h = cc

pub upcoming_is : (c : Census) (n t : ℕ) (e : Entity) → slice_get (upcoming c n) t ≡ Some e → (t < n) × (e ≡ next_entity c t)
upcoming_is c n t e is = elim (cases_lt t n) [
  | inl lt ↦
      let at = slice_get-get_or (upcoming c n) t e (omega (arith, upcoming_length c n)) in
      (lt, some_same _ _ (sym is ∙ at) ∙ upcoming_at c n t e lt)
  | inr past ↦ let none = slice_get_past (upcoming c n) t (omega (arith, upcoming_length c n)) in absurd (cc)
]

has_push : (es : List Entity) (e : Entity) (i : ℕ) → has_index (es ++ e ∷ []) i ≡ (has_index es i || (eqb e.0 i || false))
has_push es e i = list_any-append (λ x. eqb x.0 i) es (e ∷ [])

pub has_none : (c : Census) (n i : ℕ) → ((t : ℕ) → t < n → next_index c t ≢ i) → has_index (upcoming c n) i ≡ false
has_none c zero i h = refl
has_none c (suc n) i h = has_push (upcoming c n) (next_entity c n) i ∙ rw (has_none c n i (λ t lt. h t (omega arith)), ne_eqb (next_index c n) i (h n (omega arith))) refl

or_either : (a b : Bool) → b ≡ true → (a || (b || false)) ≡ true
or_either true b e = refl
or_either false b e = rw e refl

or_first : (a b : Bool) → a ≡ true → (a || (b || false)) ≡ true
or_first a b e = rw e refl

pub has_at : (c : Census) (n t : ℕ) → t < n → has_index (upcoming c n) (next_index c t) ≡ true
has_at c zero t lt = absurd (omega arith)
has_at c (suc n) t lt = has_push (upcoming c n) (next_entity c n) (next_index c t) ∙ (elim (cases_eq t n) [
  | inl e ↦ or_either _ _ (eq-eqb (next_index c n) (next_index c t) (ap (next_index c) (sym e)))
  | inr o ↦ or_first _ _ (has_at c n t (omega (arith, o)))
])

pub fresh_next : (c : Census) (t : ℕ) → IsStacked c.generations c.free → has_index (upcoming c t) (next_index c t) ≡ false
fresh_next c t s = has_none c t (next_index c t) (λ j lt. next_apart c j t s lt)

-- ---- they are a reserve
still_free : (p : Population) (es : List Entity) (i : ℕ) → has_index es i ≡ false → is_free (with_births es p) i ≡ is_free p i
still_free p es i h = rw h (drop_or (p.merged i) (p.pending i) _)
  where
    drop_or : (m r x : Bool) → (not (m || (r || false)) && x) ≡ (not (m || r) && x)
    drop_or true r x = refl
    drop_or false true x = refl
    drop_or false false x = refl

not_free : (p : Population) (es : List Entity) (i : ℕ) → has_index es i ≡ true → is_free (with_births es p) i ≡ false
not_free p es i h = rw h (lives_so (p.merged i) (p.pending i) _)
  where
    lives_so : (m r x : Bool) → (not (m || (r || true)) && x) ≡ false
    lives_so true r x = refl
    lives_so false true x = refl
    lives_so false false x = refl

none_left : (c : Census) (t : ℕ) → IsStacked c.generations c.free → length c.free ≤ t → NoneFree (with_births (upcoming c t) (population c))
none_left c t s le i = elim (cases_Bool (has_index (upcoming c t) i)) [
  | inl h ↦ not_free (population c) (upcoming c t) i h
  | inr f ↦ still_free (population c) (upcoming c t) i f ∙ (elim (cases_Bool (is_free (population c) i)) [
    | inr n ↦ n
    | inl y ↦
        let at = s.listed i ∙ ap (λ (b : Bool). cond b 1 0) (sym (free_is c i) ∙ y) in
        let k = found c.free i (omega (arith, at)) in
        let low : length c.free - 1 - k.0 < length c.free = omega (arith, k.1) in
        let back : length c.free - 1 - (length c.free - 1 - k.0) ≡ k.0 = omega (arith, k.1) in
        let is = next_low c (length c.free - 1 - k.0) low ∙ ap (λ (j : ℕ). get_or c.free j 0) back ∙ k.2 in
        absurd (both_ways _ f (ap (has_index (upcoming c t)) (sym is) ∙ has_at c t (length c.free - 1 - k.0) (omega arith)))
  ])
]

born_then : (b : Bool) (n : ℕ) → (n ≡ 0 → ⊥) → cond b (n + 1) n ≢ 0
born_then true n h e = omega (arith, e)
born_then false n h e = h e

least_left : (c : Census) (t : ℕ) → IsStacked c.generations c.free → length c.free ≤ t → IsLeastUnused (with_births (upcoming c t) (population c)) (next_index c t)
least_left c t s le = (none, lower)
  where
    at : next_index c t ≡ length c.generations + (t - length c.free)
    at = next_high c t le

    none : cond (has_index (upcoming c t) (next_index c t)) (births_of c.generations (next_index c t) + 1) (births_of c.generations (next_index c t)) ≡ 0
    none = rw (fresh_next c t s) (unborn_past c.generations (next_index c t) (omega (arith, at)))

    lower : (j : ℕ) → j < next_index c t → cond (has_index (upcoming c t) j) (births_of c.generations j + 1) (births_of c.generations j) ≢ 0
    lower j lt = elim (cases_lt j (length c.generations)) [
      | inl b ↦ born_then (has_index (upcoming c t) j) _ (born_in c.generations c.free j s b)
      | inr a ↦
          let e : length c.generations + (length c.free + (j - length c.generations) - length c.free) ≡ j = omega (arith, a) in
          let is = next_high c (length c.free + (j - length c.generations)) (omega arith) ∙ e in
          let h = ap (has_index (upcoming c t)) (sym is) ∙ has_at c t (length c.free + (j - length c.generations)) (omega (arith, at, a, lt)) in
          λ z. omega (arith, rw h at z)
    ]

pub may_be_born : (c : Census) (n t : ℕ) → IsStacked c.generations c.free → length c.generations + (n - length c.free) ≤ INDEX_LIMIT → t < n → MayBeBorn (with_births (upcoming c t) (population c)) (next_index c t)
may_be_born c n t s few lt = elim (cases_lt t (length c.free)) [
  | inl low ↦ inl (still_free (population c) (upcoming c t) (next_index c t) (fresh_next c t s) ∙ free_is c (next_index c t) ∙ ap (λ (i : ℕ). free_at (get_or c.generations i (pos 0))) (next_low c t low) ∙ stack_free c.generations c.free (length c.free - 1 - t) s (omega arith))
  | inr high ↦ inr (none_left c t s high, least_left c t s high, omega (arith, next_high c t high))
]

pub reserve_is : (c : Census) (n : ℕ) → IsStacked c.generations c.free → length c.generations + (n - length c.free) ≤ INDEX_LIMIT → IsReserve (population c) (upcoming c n)
reserve_is c n s few = record {
  may = λ t e is. let at = upcoming_is c n t e is in
      subst (λ (x : Entity). MayBeBorn (with_births (take t (upcoming c n)) (population c)) x.0) (sym at.1)
      (subst (λ (es : List Entity). MayBeBorn (with_births es (population c)) (next_index c t)) (sym (upcoming_take c n t (omega (arith, at.0)))) (may_be_born c n t s few at.0));
  generation = λ t e is. let at = upcoming_is c n t e is in
      subst (λ (x : Entity). x.1.0 ≡ pos (births_of c.generations x.0 + 1)) (sym at.1) refl;
  below = λ t e is. let at = upcoming_is c n t e is in
      let index = ap (λ (x : Entity). x.0) at.1 in elim (cases_lt t (length c.free)) [
        | inl low ↦ omega (arith, index, next_born c t s low, few)
        | inr high ↦ omega (arith, index, next_high c t high, at.0, few)
      ];
  once = λ t e is. let at = upcoming_is c n t e is in
      subst (λ (x : Entity). has_index (take t (upcoming c n)) x.0 ≡ false) (sym at.1)
      (subst (λ (es : List Entity). has_index es (next_index c t) ≡ false) (sym (upcoming_take c n t (omega (arith, at.0)))) (fresh_next c t s));
}

-- ---- they are born in their order
pub born_next : (p : Population) (es : List Entity) (e : Entity) (i : ℕ) → e.0 ≡ i → has_index es i ≡ false → born_pending (with_births es p) i ≡ with_births (es ++ e ∷ []) p
born_next p es e i is fresh = same_population _ _ births (λ _. refl) pending (λ _. refl)
  where
    births : (j : ℕ) → cond (eqb j i) (cond (has_index es j) (p.births j + 1) (p.births j) + 1) (cond (has_index es j) (p.births j + 1) (p.births j)) ≡ cond (has_index (es ++ e ∷ []) j) (p.births j + 1) (p.births j)
    births j = elim (cases_eq j i) [
      | inl s ↦ rw (has_push es e j, s, fresh, is, eq-eqb i i refl) refl
      | inr d ↦ rw (has_push es e j, is, ne_eqb j i d, ne_eqb i j (λ s. d (sym s))) (drop_false (has_index es j) _ _)
    ]
      where
        drop_false : (b : Bool) (m n : ℕ) → cond b m n ≡ cond (b || false) m n
        drop_false true m n = refl
        drop_false false m n = refl

    pending : (j : ℕ) → (eqb j i || (p.pending j || has_index es j)) ≡ (p.pending j || has_index (es ++ e ∷ []) j)
    pending j = elim (cases_eq j i) [
      | inl s ↦ rw (has_push es e j, s, is, eq-eqb i i refl) (last (p.pending i) (has_index es i))
      | inr d ↦ rw (has_push es e j, is, ne_eqb j i d, ne_eqb i j (λ s. d (sym s))) (same (p.pending j) (has_index es j))
    ]
      where
        last : (r h : Bool) → true ≡ (r || (h || true))
        last true h = refl
        last false true = refl
        last false false = refl

        same : (r h : Bool) → (r || h) ≡ (r || (h || false))
        same true h = refl
        same false true = refl
        same false false = refl

-- after k of the births of c0
pub record IsBorne (c0 : Census) (k : ℕ) (s : Census) : Type 0 where
  pub born : population s ≡ with_births (upcoming c0 k) (population c0)
  pub free : s.free ≡ take (length c0.free - k) c0.free
  pub len : length s.generations ≡ length c0.generations + (k - length c0.free)
  pub room : s.room ≡ c0.room

pub borne_none : (c0 : Census) → IsBorne c0 0 c0
borne_none c0 = record {
  born = same_population _ _ (λ _. refl) (λ _. refl) (λ j. sym (or-false (living_of c0.generations j && set.contains c0.raised j))) (λ _. refl);
  free = sym (take_all (length c0.free - 0) c0.free (omega arith));
  len = omega arith;
  room = refl;
}

born_step : (c0 s s' : Census) (k i : ℕ) → IsStacked c0.generations c0.free → IsBorne c0 k s → i ≡ next_index c0 k → population s' ≡ born_pending (population s) i → population s' ≡ with_births (upcoming c0 (k + 1)) (population c0)
born_step c0 s s' k i stack h is e =
    e ∙ ap (λ (p : Population). born_pending p i) h.born ∙ ap (born_pending (with_births (upcoming c0 k) (population c0))) is
    ∙ born_next (population c0) (upcoming c0 k) (next_entity c0 k) (next_index c0 k) refl (fresh_next c0 k stack)
    ∙ ap (λ (n : ℕ). with_births (upcoming c0 n) (population c0)) (sym (add-one k))

pub borne_revived : (c0 s s' : Census) (k i : ℕ) → IsStacked c0.generations c0.free → IsBorne c0 k s → s.free ≡ s'.free ++ i ∷ [] → population s' ≡ born_pending (population s) i → length s'.generations ≡ length s.generations → s'.room ≡ s.room → IsBorne c0 (k + 1) s'
borne_revived c0 s s' k i stack h last e len room =
    let sizes = length-take-le (length c0.free - k) c0.free (omega arith) in
    let low : k < length c0.free = omega (arith, sizes, ap length h.free, ap length last, length_push s'.free i) in
    let m : ℕ = length c0.free - 1 - k in
    let more : take (length c0.free - k) c0.free ≡ take m c0.free ++ get_or c0.free m 0 ∷ [] = ap (λ (n : ℕ). take n c0.free) (let q : length c0.free - k ≡ length c0.free - 1 - k + 1 = omega (arith, low) in q) ∙ take_more c0.free m 0 (omega (arith, low)) in
    let both = same_from_push s'.free (take m c0.free) i (get_or c0.free m 0) (sym last ∙ h.free ∙ more) in
    record {
      born = born_step c0 s s' k i stack h (both.1 ∙ sym (next_low c0 k low)) e;
      free = both.0 ∙ ap (λ (n : ℕ). take n c0.free) (let q : length c0.free - 1 - k ≡ length c0.free - (k + 1) = omega arith in q);
      len = omega (arith, len, h.len, low);
      room = room ∙ h.room;
    }

pub borne_first : (c0 s s' : Census) (k i : ℕ) → IsStacked c0.generations c0.free → IsBorne c0 k s → s.free ≡ [] → i ≡ length s.generations → population s' ≡ born_pending (population s) i → length s'.generations ≡ length s.generations + 1 → s'.free ≡ [] → s'.room ≡ s.room → IsBorne c0 (k + 1) s'
borne_first c0 s s' k i stack h none is e len none' room =
    let sizes = length-take-le (length c0.free - k) c0.free (omega arith) in
    let high : length c0.free ≤ k = omega (arith, sizes, ap length h.free, ap length none) in
    let zero_left : length c0.free - (k + 1) ≡ 0 = omega (arith, high) in
    record {
      born = born_step c0 s s' k i stack h (is ∙ h.len ∙ sym (next_high c0 k high)) e;
      free = none' ∙ ap (λ (n : ℕ). take n c0.free) (sym zero_left);
      len = omega (arith, len, h.len, high);
      room = room ∙ h.room;
    }

-- ---- where they stand
pub revived_below : (c : Census) (n k : ℕ) (e : Entity) → IsStacked c.generations c.free → slice_get (upcoming c n) k ≡ Some e → k < length c.free → e.0 < length c.generations
revived_below c n k e s is low = rw (upcoming_is c n k e is).1 (next_born c k s low)

pub below_end : (c : Census) (n k : ℕ) (e : Entity) → ((k : ℕ) (e : Entity) → slice_get (upcoming c n) k ≡ Some e → k < length c.free → e.0 < length c.generations) → slice_get (upcoming c n) k ≡ Some e → e.0 < length c.generations + (n - length c.free)
below_end c n k e revived is = elim (cases_lt k (length c.free)) [
  | inl low ↦ omega (arith, revived k e is low)
  | inr high ↦ let at = upcoming_is c n k e is in omega (arith, at.0, ap (λ (x : Entity). x.0) at.1, next_high c k high)
]

pub same_upcoming : (c c' : Census) (n : ℕ) → SameBut c c' → upcoming c' n ≡ upcoming c n
same_upcoming c c' zero s = refl
same_upcoming c c' (suc n) s = rw (same_upcoming c c' n s, s.generations, s.free) refl
