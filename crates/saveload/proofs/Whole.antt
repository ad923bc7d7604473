-- What a saved list refers to is saved in it, and its ids differ.
use Rattle.std.proofs.Common.{◌≡◌, ℕ, ◌+◌, ◌<◌, suc, Bool, true, false, ◌&&◌, ◌||◌, cond, List, [], ◌∷◌, ◌++◌, map, refl, sym, ap, subst, ◌∙◌, inl, inr, Some, None, is_some, arith, eqb-true}
use Rattle.std.specs.Prelude.{◌⊎◌, Option, IsSome, pos, Result, Ok, Err, IfOk, OnOk}
use Rattle.std.specs.List.{Contains}
use Rattle.std.specs.List.Sorted.{IsStrictlyIncreasing}
use Rattle.std.specs.FinMap as finmap
use Rattle.std.proofs.lemmas.Bool.{false≢true, eq-eqb, or_left, or_right}
use Rattle.std.proofs.lemmas.Bool.Decides.{Decides-int_eq}
use Rattle.hibits.specs.Left.{left, left-ascends, left-contains, contains-left}
use Rattle.entities.specs.declared.entity.Entity.{Entity}
use Rattle.entities.specs.Census.{Census, population}
use Rattle.entities.specs.Population.{Population, lives, index_of, generation_of, generation_now}
use Rattle.entities.specs.Deaths.{has_index}
use Rattle.storages.specs.Slot.{Slot}
use Rattle.storages.specs.Found.{found_in}
use Rattle.storages.specs.Life.{is_alive}
use Rattle.storages.specs.Limit.{IsIndex}
use Rattle.saveload.specs.declared.entity_data.EntityData.{EntityData}
use Rattle.saveload.specs.Conversion.{Conversion, Has}
use Rattle.saveload.specs.Saved.{IsSavedList, DistinctIds, TellsApart, HoldsReferences, entity_at, all_marked}
use Rattle.saveload.specs.Closing.{one_more, add_new, new_in, marked_in, HasMarked}
use Rattle.saveload.specs.Places.{has_left, has_right, has_either}
use Rattle.saveload.proofs.Lists.{has_at}
use Rattle.saveload.proofs.Marked.{both_true, has_contains}
use Rattle.saveload.proofs.Named.{has_map}
use Rattle.saveload.proofs.Renaming.{from_map}

-- nothing stands twice in a list
abbrev pub EachOnce : {X : Type 0} → List X → Type 0
EachOnce [] = Unit {0}
EachOnce (x ∷ xs) = (Has xs x → ⊥) × EachOnce xs

module _ {M V D : Type 0} (c : Conversion M V D) (marker_of : Entity → Option M) (values : Entity → V) where
  -- each reference of a saved one has a marker
  saved_named : (es : List Entity) (rs : List (EntityData M D)) → IsSavedList c marker_of values es rs → (e x : Entity) → Has es e → Has (c.references (values e)) x → IsSome (marker_of x)
  saved_named [] rs s e x h k = absurd h
  saved_named (y ∷ es) [] s e x h k = absurd s
  saved_named (y ∷ es) (r ∷ rs) s e x (inl same) k = s.0.row.named x (subst (λ z. Has (c.references (values z)) x) (sym same) k)
  saved_named (y ∷ es) (r ∷ rs) s e x (inr h) k = saved_named es rs s.1 e x h k

  -- and so has each saved one
  pub saved_marked : (es : List Entity) (rs : List (EntityData M D)) → IsSavedList c marker_of values es rs → (e : Entity) → Has es e → IsSome (marker_of e)
  saved_marked [] rs s e h = absurd h
  saved_marked (y ∷ es) [] s e h = absurd s
  saved_marked (y ∷ es) (r ∷ rs) s e (inl same) = subst (λ z. IsSome (marker_of z)) same (ap is_some s.0.own)
  saved_marked (y ∷ es) (r ∷ rs) s e (inr h) = saved_marked es rs s.1 e h

  -- what is referred to is saved, where each that has a marker is
  pub saved_holds : (es : List Entity) (rs : List (EntityData M D)) → IsSavedList c marker_of values es rs → ((x : Entity) → IsSome (marker_of x) → Has es x) → HoldsReferences c values es
  saved_holds es rs s whole e x h k = whole x (saved_named es rs s e x h k)

  entity_saved : (es : List Entity) (rs : List (EntityData M D)) → IsSavedList c marker_of values es rs → (r : EntityData M D) → Has rs r → (x : Entity) × Has es x × (marker_of x ≡ Some r.marker)
  entity_saved [] [] s r h = absurd h
  entity_saved [] (q ∷ rs) s r h = absurd s
  entity_saved (e ∷ es) [] s r h = absurd s
  entity_saved (e ∷ es) (q ∷ rs) s r (inl same) = (e, inl refl, s.0.own ∙ ap (λ (d : EntityData M D). Some d.marker) same)
  entity_saved (e ∷ es) (q ∷ rs) s r (inr h) = let k = entity_saved es rs s.1 r h in (k.0, inr k.1, k.2)

  -- the ids differ, where none is saved twice and the markers tell the entities apart
  pub saved_distinct : {I : Type 0} (id_of : M → I) → TellsApart id_of marker_of → (es : List Entity) (rs : List (EntityData M D)) → IsSavedList c marker_of values es rs → EachOnce es → DistinctIds id_of rs
  saved_distinct id_of apart [] [] s o = tt
  saved_distinct id_of apart [] (r ∷ rs) s o = absurd s
  saved_distinct id_of apart (e ∷ es) [] s o = absurd s
  saved_distinct id_of apart (e ∷ es) (r ∷ rs) s o = (
    λ q h same. let x = entity_saved es rs s.1 q h in o.0 (subst (Has es) (apart x.0 e q.marker r.marker x.2 s.0.own same) x.1),
    saved_distinct id_of apart es rs s.1 o.1,
  )

-- ---- those that live and have a marker
contained : (xs : List ℕ) (i : ℕ) → Contains xs i → Has xs i
contained xs i k = subst (Has xs) k.2 (has_at xs k.0 i k.1)

rises : (x : ℕ) (xs : List ℕ) → IsStrictlyIncreasing (x ∷ xs) → IsStrictlyIncreasing xs
rises x xs up k lt = let e : suc k + 1 ≡ suc (k + 1) = omega arith in rw e at (up (suc k) (omega (arith, lt)))

above : (x : ℕ) (xs : List ℕ) → IsStrictlyIncreasing (x ∷ xs) → (y : ℕ) → Has xs y → x < y
above x [] up y h = absurd h
above x (z ∷ zs) up y (inl e) = let lt : x < z = up 0 (omega arith) in omega (arith, lt, e)
above x (z ∷ zs) up y (inr h) = let lt : x < z = up 0 (omega arith) in let on = above z zs (rises x (z ∷ zs) up) y h in omega (arith, lt, on)

rising_once : (xs : List ℕ) → IsStrictlyIncreasing xs → EachOnce xs
rising_once [] up = tt
rising_once (x ∷ xs) up = (λ h. let lt = above x xs up x h in omega (arith, lt), rising_once xs (rises x xs up))

once_map : (f : ℕ → Entity) → ((i : ℕ) → index_of (f i) ≡ i) → (xs : List ℕ) → EachOnce xs → EachOnce (map f xs)
once_map f back [] o = tt
once_map f back (x ∷ xs) o = (
  λ h. let k = from_map f xs (f x) h in o.0 (subst (Has xs) (sym (back k.0) ∙ ap index_of k.2 ∙ back x) k.1),
  once_map f back xs o.1,
)

-- an entity that is alive is the one of its index
living_is : (p : Population) (e : Entity) → is_alive p e ≡ true → e ≡ entity_at p (index_of e)
living_is p e a =
    let b = both_true (lives p (index_of e)) _ a in
    let g : generation_of e ≡ pos (p.births (index_of e)) = (Decides-int_eq _ _).0 b.1 in
    let now : generation_now p (index_of e) ≡ pos (p.births (index_of e)) = rw b.0 refl in
    ap (λ n. (index_of e, record { 0 = n })) (g ∙ sym now)

living_one : (p : Population) (x y : Entity) → is_alive p x ≡ true → is_alive p y ≡ true → index_of x ≡ index_of y → x ≡ y
living_one p x y a b e = living_is p x a ∙ ap (entity_at p) e ∙ sym (living_is p y b)

either_true : (a b : Bool) → (a || b) ≡ true → (a ≡ true) ⊎ (b ≡ true)
either_true true b h = inl refl
either_true false b h = inr h

indexed : (xs : List Entity) (x : Entity) → Has xs x → has_index xs (index_of x) ≡ true
indexed [] x h = absurd h
indexed (y ∷ xs) x (inl e) = or_left _ (has_index xs (index_of x)) (eq-eqb (index_of y) (index_of x) (ap index_of e))
indexed (y ∷ xs) x (inr h) = or_right _ (has_index xs (index_of x)) (indexed xs x h)

with_index : (xs : List Entity) (i : ℕ) → has_index xs i ≡ true → (y : Entity) × Has xs y × (index_of y ≡ i)
with_index [] i h = absurd (false≢true h)
with_index (y ∷ xs) i h = elim (either_true _ (has_index xs i) h) [
  | inl t ↦ (y, inl refl, eqb-true (index_of y) i t)
  | inr t ↦ let k = with_index xs i t in (k.0, inr k.1, k.2)
]

module _ {M : Type 0} where
  -- of what is found: alive, and the index has a marker
  found_parts : (a : Bool) (o : Option M) → IsSome (cond a o None) → (a ≡ true) × (is_some o ≡ true)
  found_parts true o h = (refl, h)
  found_parts false o h = absurd (false≢true h)

  -- each that is alive and has a marker is one of those that live and have one
  pub marked_whole : (c : Census) (s : Slot M) → ((i : ℕ) → finmap.contains_key s.map i ≡ true → IsIndex i) → (e : Entity) → IsSome (found_in c s e) → Has (all_marked (population c) s) e
  marked_whole c s limit e h =
      let k = found_parts (is_alive (population c) e) (finmap.get s.map (index_of e)) h in
      let b = both_true (lives (population c) (index_of e)) _ k.0 in
      let test = λ (i : ℕ). lives (population c) i && finmap.contains_key s.map i in
      let has : test (index_of e) ≡ true = rw b.0 k.1 in
      let at = contained (left test 0) (index_of e) (left-contains test 0 (index_of e) (omega arith) (limit (index_of e) k.1) has) in
      subst (Has (all_marked (population c) s)) (sym (living_is (population c) e k.0)) (has_map (entity_at (population c)) (left test 0) (index_of e) at)

  pub whole_in : (c c' : Census) (s s' : Slot M) (xs ys : List Entity) → c ≡ c' → s ≡ s' → xs ≡ ys → ((e : Entity) → IsSome (found_in c s e) → Has xs e) → (e : Entity) → IsSome (found_in c' s' e) → Has ys e
  whole_in c c' s s' xs ys a b l whole e h =
      subst (λ zs. Has zs e) l (whole e (subst (λ w. IsSome (found_in w s e)) (sym a) (subst (λ t. IsSome (found_in c' t e)) (sym b) h)))

  pub marked_once : (p : Population) (s : Slot M) → EachOnce (all_marked p s)
  marked_once p s = once_map (entity_at p) (λ i. refl) _ (rising_once _ (left-ascends (λ i. lives p i && finmap.contains_key s.map i) 0))

  -- the same of these and of those that got markers
  pub more_whole : (c c' : Census) (s s' : Slot M) (added : List Entity) → c' ≡ c → ((x : Entity) → IsSome (found_in c s x) → Has (all_marked (population c) s) x) → HasMarked s s' added
      → ((y : Entity) → Has added y → IsSome (found_in c' s' y)) → (x : Entity) → IsSome (found_in c' s' x) → Has (all_marked (population c) s ++ added) x
  more_whole c c' s s' added same whole marked each x h =
      let k = found_parts (is_alive (population c') x) (finmap.get s'.map (index_of x)) h in
      elim (either_true (marked_in s (index_of x)) (has_index added (index_of x)) (sym (marked.marks (index_of x)) ∙ k.1)) [
        | inl was ↦
            let alive : is_alive (population c) x ≡ true = subst (λ w. is_alive (population w) x ≡ true) same k.0 in
            has_left (all_marked (population c) s) added x (whole x (ap (λ b. is_some (cond b (finmap.get s.map (index_of x)) None)) alive ∙ was))
        | inr new ↦
            let y = with_index added (index_of x) new in
            let a = found_parts (is_alive (population c') y.0) (finmap.get s'.map (index_of y.0)) (each y.0 y.1) in
            has_right (all_marked (population c) s) added x (subst (Has added) (living_one (population c') y.0 x a.0 k.0 y.2) y.1)
      ]

-- ---- no one of them stands twice
once_last : (xs : List Entity) (x : Entity) → EachOnce xs → (Has xs x → ⊥) → EachOnce (xs ++ x ∷ [])
once_last [] x o n = (λ h. h, tt)
once_last (y ∷ xs) x o n = (
  λ h. elim (has_either xs (x ∷ []) y h) [
    | inl k ↦ o.0 k
    | inr (inl e) ↦ n (inl (sym e))
    | inr (inr k) ↦ k
  ],
  once_last xs x o.1 (λ h. n (inr h)),
)

once_both : (xs ys : List Entity) → EachOnce xs → EachOnce ys → ((x : Entity) → Has xs x → Has ys x → ⊥) → EachOnce (xs ++ ys)
once_both [] ys o p n = p
once_both (x ∷ xs) ys o p n = (
  λ h. elim (has_either xs ys x h) [ inl k ↦ o.0 k | inr k ↦ n x (inl refl) k ],
  once_both xs ys o.1 p (λ z h k. n z (inr h) k),
)

-- each once, and none with a mark
abbrev AreNew : (ℕ → Bool) → List Entity → Type 0
AreNew m xs = EachOnce xs × ((x : Entity) → Has xs x → m (index_of x) ≡ false)

either_false : (a b : Bool) → (a || b) ≡ false → (a ≡ false) × (b ≡ false)
either_false true b h = absurd (false≢true (sym h))
either_false false b h = (refl, h)

one_new : (m : ℕ → Bool) (added : List Entity) (x : Entity) (b : Bool) → (m (index_of x) || has_index added (index_of x)) ≡ b → AreNew m added → AreNew m (cond b added (added ++ x ∷ []))
one_new m added x true e n = n
one_new m added x false e n =
    let off = either_false (m (index_of x)) (has_index added (index_of x)) e in (
      once_last added x n.0 (λ h. false≢true (sym off.1 ∙ indexed added x h)),
      λ y h. elim (has_either added (x ∷ []) y h) [
        | inl k ↦ n.1 y k
        | inr (inl same) ↦ ap (λ (z : Entity). m (index_of z)) (sym same) ∙ off.0
        | inr (inr k) ↦ absurd k
      ],
    )

all_new : (m : ℕ → Bool) (added xs : List Entity) → AreNew m added → AreNew m (add_new m added xs)
all_new m added [] n = n
all_new m added (x ∷ xs) n = all_new m (one_more m added x) xs (one_new m added x (m (index_of x) || has_index added (index_of x)) refl n)

has_mark : {M : Type 0} (p : Population) (s : Slot M) (x : Entity) → Has (all_marked p s) x → marked_in s (index_of x) ≡ true
has_mark p s x h =
    let test = λ (i : ℕ). lives p i && finmap.contains_key s.map i in
    let k = from_map (entity_at p) (left test 0) x h in
    let b = contains-left test 0 k.0 (has_contains _ k.0 k.1) in
    let t = both_true (lives p k.0) (finmap.contains_key s.map k.0) b.2 in
    subst (λ i. marked_in s i ≡ true) (ap index_of k.2) t.1

-- those that live and have a marker, and then new ones
pub closed_once : {M : Type 0} (p : Population) (s : Slot M) (xs : List Entity) → EachOnce (all_marked p s ++ new_in (marked_in s) xs)
closed_once p s xs =
    let new = all_new (marked_in s) [] xs (tt, λ x h. absurd h) in
    once_both (all_marked p s) (new_in (marked_in s) xs) (marked_once p s) new.0 (λ x h k. false≢true (sym (new.1 x k) ∙ has_mark p s x h))

-- what holds of an answer, of what a call ensures
pub if_ok_on : {A E Q : Type 0} {P : A → Type 0} (r : Result A E) → ((x : A) → P x → Q) → IfOk r P → OnOk r Q
if_ok_on (Ok x) f h = f x h
if_ok_on (Err e) f h = h
