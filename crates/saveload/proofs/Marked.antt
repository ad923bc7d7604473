-- Who has a marker.
use Rattle.std.proofs.Common.{◌≡◌, ℕ, ◌+◌, ◌<◌, Bool, true, false, ◌&&◌, ◌||◌, cond, List, [], ◌∷◌, ◌++◌, length, take, get_or, zero, suc, refl, sym, ap, subst, ◌∙◌, inl, inr, Some, None, is_some, arith, drop, append-nil}
use Rattle.std.specs.Prelude.{◌⊎◌, Option, IsSome, pos}
use Rattle.std.specs.List.{Contains, flat_map}
use Rattle.std.specs.FinMap as finmap
use Rattle.std.proofs.lemmas.Bool.{false≢true, eq-eqb}
use Rattle.hibits.specs.Left.{left, contains-left}
use Rattle.entities.specs.declared.entity.Entity.{Entity}
use Rattle.entities.specs.Census.{Census, population}
use Rattle.entities.specs.Population.{Population, lives, index_of, generation_now}
use Rattle.entities.specs.Deaths.{has_index}
use Rattle.storages.specs.Slot.{Slot}
use Rattle.storages.specs.Found.{found_in}
use Rattle.storages.specs.Life.{is_alive}
use Rattle.saveload.specs.declared.error.SaveError.{SaveError}
use Rattle.saveload.specs.declared.error.SaveError.TheVariants.{Unmarked, Custom, OutOfMemory, IdsExhausted, IdTaken}
use Rattle.saveload.specs.Conversion.{Conversion, Has, AllNamed, IsFirstUnnamed, Refuses}
use Rattle.saveload.specs.Saved.{entity_at, all_marked, RefusesSave}
use Rattle.saveload.specs.Closing.{one_more, add_new, new_in, marked_in, HasMarked, LeadsTo, RefusesMarking, MarksSome, MarksThese, AllAlive, MarksBefore, MarksUpTo, RefusesAll}
use Rattle.saveload.specs.Closing.LeadsTo.{next}
use Rattle.saveload.specs.Places.{has_either}
use Rattle.std.specs.Ordering.{nat_cmp}
use Rattle.std.proofs.lemmas.List.{take-append-le, take-append-drop, drop_more, append_assoc}
use Rattle.saveload.proofs.Ids.{get-insert}
use Rattle.saveload.proofs.Lists.{tested_more}
use Rattle.saveload.proofs.Closing.{marked_both, marks_more}
use Rattle.saveload.proofs.Named.{alive_true}
use Rattle.saveload.proofs.Renaming.{from_map}

pub has_contains : {X : Type 0} (xs : List X) (x : X) → Has xs x → Contains xs x
has_contains [] x h = absurd h
has_contains (y ∷ xs) x (inl e) = (zero, omega arith, e)
has_contains (y ∷ xs) x (inr h) = let k = has_contains xs x h in let lt = k.1 in (suc k.0, omega arith, k.2)

pub both_true : (a b : Bool) → (a && b) ≡ true → (a ≡ true) × (b ≡ true)
both_true true b e = (refl, e)
both_true false b e = absurd (false≢true e)

module _ {M : Type 0} (c : Census) (s : Slot M) where
  named_at : (i : ℕ) → lives (population c) i ≡ true → is_some (finmap.get s.map i) ≡ true → IsSome (found_in c s (entity_at (population c) i))
  named_at i l k =
      let now : generation_now (population c) i ≡ pos ((population c).births i) = rw l refl in
      let alive : is_alive (population c) (entity_at (population c) i) ≡ true = alive_true (population c) (entity_at (population c) i) (l, now) in
      ap (λ b. is_some (cond b (finmap.get s.map i) None)) alive ∙ k

  -- those that live and have a marker
  pub all_marked_named : AllNamed (found_in c s) (all_marked (population c) s)
  all_marked_named x h =
      let k = from_map (entity_at (population c)) (left (λ i. lives (population c) i && finmap.contains_key s.map i) 0) x h in
      let b = contains-left (λ i. lives (population c) i && finmap.contains_key s.map i) 0 k.0 (has_contains _ k.0 k.1) in
      let t = both_true (lives (population c) k.0) (finmap.contains_key s.map k.0) b.2 in
      subst (λ e. IsSome (found_in c s e)) k.2 (named_at k.0 t.0 t.1)

-- one of a list is refused
pub list_refused : {M V D : Type 0} (c : Conversion M V D) (g : Entity → Option M) (values : Entity → V) (es : List Entity) (e : Entity) (x : SaveError) → Has es e
    → Refuses (c.unsaved (values e)) g (c.references (values e)) x → RefusesSave c g values es x
list_refused c g values es e (Unmarked x) h r = (e, h, r)
list_refused c g values es e (Custom t) h r = (e, h, r)
list_refused c g values es e OutOfMemory h r = tt
list_refused c g values es e IdsExhausted h r = absurd r
list_refused c g values es e IdTaken h r = absurd r

or_false : (b : Bool) → (b || false) ≡ b
or_false true = refl
or_false false = refl

module _ {M : Type 0} where
  -- nobody got a mark
  pub marks_nobody : (s s' : Slot M) → s'.map ≡ s.map → HasMarked s s' []
  marks_nobody s s' e = record {
    marks = λ j. ap (λ (m : finmap.FinMap nat_cmp M). is_some (finmap.get m j)) e ∙ sym (or_false (marked_in s j));
    kept = λ j h. ap (λ (m : finmap.FinMap nat_cmp M). finmap.get m j) e;
  }

  pub marks_none : (people : Population) (P : Entity → Type 0) (s s' : Slot M) → s'.map ≡ s.map → MarksSome people P s s'
  marks_none people P s s' e = record {
    added = [];
    marked = marks_nobody s s' e;
    each = λ x h. absurd h;
  }

  -- one got a mark
  pub marks_one : (people : Population) (e : Entity) (s s' : Slot M) → HasMarked s s' (e ∷ []) → is_alive people e ≡ true → MarksSome people (Has (e ∷ [])) s s'
  marks_one people e s s' m a = record {
    added = e ∷ [];
    marked = m;
    each = λ x h. (h, elim h [ inl same ↦ subst (λ y. is_alive people y ≡ true) same a | inr n ↦ absurd n ]);
  }

  -- some got one, and then some more
  pub marks_then : (people people' : Population) (P Q R : Entity → Type 0) (s s' s'' : Slot M) → people' ≡ people → ((x : Entity) → P x → R x) → ((x : Entity) → Q x → R x) → MarksSome people P s s' → MarksSome people' Q s' s'' → MarksSome people R s s''
  marks_then people people' P Q R s s' s'' same f g p q = record {
    added = p.added ++ q.added;
    marked = marked_both s s' s'' p.added q.added p.marked q.marked;
    each = λ x h. elim (has_either p.added q.added x h) [
      | inl l ↦ (f x (p.each x l).0, (p.each x l).1)
      | inr r ↦ (g x (q.each x r).0, subst (λ w. is_alive w x ≡ true) same (q.each x r).1)
    ];
  }

  kept_at : (b : Bool) (o o' : Option M) → (is_some o ≡ true → o' ≡ o) → is_some (cond b o None) ≡ true → is_some (cond b o' None) ≡ true
  kept_at true o o' k h = ap is_some (k h) ∙ h
  kept_at false o o' k h = h

  -- who found its marker still does
  pub found_kept : (c c' : Census) (s s' : Slot M) → c' ≡ c → ((j : ℕ) → marked_in s j ≡ true → finmap.get s'.map j ≡ finmap.get s.map j) → (e : Entity) → IsSome (found_in c s e) → IsSome (found_in c' s' e)
  found_kept c c' s s' same kept e h = subst (λ w. IsSome (found_in w s' e)) (sym same) (kept_at (is_alive (population c) e) (finmap.get s.map (index_of e)) (finmap.get s'.map (index_of e)) (kept (index_of e)) h)

  pub found_new : (c c' : Census) (s s' : Slot M) (e : Entity) (x : M) → c' ≡ c → is_alive (population c) e ≡ true → s'.map ≡ finmap.insert s.map (index_of e) x → IsSome (found_in c' s' e)
  found_new c c' s s' e x same alive i =
      let put : finmap.get s'.map (index_of e) ≡ Some x = ap (λ (m : finmap.FinMap nat_cmp M). finmap.get m (index_of e)) i ∙ get-insert s.map (index_of e) x (index_of e) ∙ ap (λ b. cond b (Some x) (finmap.get s.map (index_of e))) (eq-eqb (index_of e) (index_of e) refl) in
      subst (λ w. IsSome (found_in w s' e)) (sym same) (ap (λ b. is_some (cond b (finmap.get s'.map (index_of e)) None)) alive ∙ ap is_some put)

-- what is one of the lists together is one of the list of some one
has_flat : (refs : Entity → List Entity) (es : List Entity) (x : Entity) → Has (flat_map refs es) x → (e : Entity) × Has es e × Has (refs e) x
has_flat refs [] x h = absurd h
has_flat refs (e ∷ es) x h = elim (has_either (refs e) (flat_map refs es) x h) [
  | inl l ↦ (e, inl refl, l)
  | inr r ↦ let k = has_flat refs es x r in (k.0, inr k.1, k.2)
]

alive_if : {M : Type 0} (b : Bool) (o : Option M) → IsSome (cond b o None) → b ≡ true
alive_if true o h = refl
alive_if false o h = absurd (false≢true h)

-- those that find their markers are alive
pub named_are_alive : {M : Type 0} (c c' : Census) (s : Slot M) (xs : List Entity) → c' ≡ c → AllNamed (found_in c' s) xs → AllAlive (population c) xs
named_are_alive c c' s xs same h x k = subst (λ w. is_alive (population w) x ≡ true) same (alive_if (is_alive (population c') x) (finmap.get s.map (index_of x)) (h x k))

-- what some refer to is alive, where it finds its markers
pub referred_are_alive : {M : Type 0} (c c' : Census) (s : Slot M) (refs : Entity → List Entity) (es : List Entity) → c' ≡ c → ((e : Entity) → Has es e → AllNamed (found_in c' s) (refs e)) → AllAlive (population c) (flat_map refs es)
referred_are_alive c c' s refs es same h x k = let f = has_flat refs es x k in named_are_alive c c' s (refs f.0) same (h f.0 f.1) x f.2

pub one_alive : (people : Population) (e : Entity) → is_alive people e ≡ true → AllAlive people (e ∷ [])
one_alive people e a x (inl same) = subst (λ y. is_alive people y ≡ true) same a
one_alive people e a x (inr n) = absurd n

alive_both : (people : Population) (xs ys : List Entity) → AllAlive people xs → AllAlive people ys → AllAlive people (xs ++ ys)
alive_both people xs ys f g x h = elim (has_either xs ys x h) [ inl l ↦ f x l | inr r ↦ g x r ]

split_at : (xs : List Entity) (i : ℕ) (d : Entity) → i < length xs → xs ≡ take i xs ++ get_or xs i d ∷ drop (i + 1) xs
split_at xs i d lt = sym (take-append-drop i xs) ∙ ap (λ l. take i xs ++ l) (drop_more xs i d lt)

module _ {M : Type 0} where
  -- none of a list got a mark
  pub before_all : (people : Population) (xs : List Entity) (s s' : Slot M) → s'.map ≡ s.map → MarksBefore people xs s s' xs
  before_all people xs s s' e = record { before = []; parts = refl; alive = λ x h. absurd h; marked = marks_nobody s s' e }

  -- each of a list has one
  pub after_all : (people : Population) (xs : List Entity) (s s' : Slot M) → AllAlive people xs → HasMarked s s' (new_in (marked_in s) xs) → MarksBefore people xs s s' []
  after_all people xs s s' a h = record { before = xs; parts = sym (append-nil xs); alive = a; marked = h }

  -- those before one of a list have marks, and then it came to this one
  one_later : (people people' : Population) (s s' s'' : Slot M) (xs : List Entity) (i : ℕ) (d : Entity) → people' ≡ people → i < length xs → AllAlive people (take i xs) → HasMarked s s' (new_in (marked_in s) (take i xs)) → (after : List Entity)
      → MarksBefore people' (get_or xs i d ∷ []) s' s'' after → MarksBefore people xs s s'' (after ++ drop (i + 1) xs)
  one_later people people' s s' s'' xs i d same lt a h after m = record {
    before = take i xs ++ m.before;
    parts = split_at xs i d lt ∙ ap (λ l. take i xs ++ (l ++ drop (i + 1) xs)) m.parts ∙ ap (λ l. take i xs ++ l) (append_assoc m.before after (drop (i + 1) xs)) ∙ sym (append_assoc (take i xs) m.before (after ++ drop (i + 1) xs));
    alive = alive_both people (take i xs) m.before a (subst (λ w. AllAlive w m.before) same m.alive);
    marked = marks_more s s' s'' (take i xs) m.before h m.marked;
  }

  pub stops_at : (people people' : Population) (s s' s'' : Slot M) (xs : List Entity) (i : ℕ) (d : Entity) → people' ≡ people → i < length xs → AllAlive people (take i xs) → HasMarked s s' (new_in (marked_in s) (take i xs))
      → (e : SaveError) → RefusesMarking people' (MarksBefore people' (get_or xs i d ∷ []) s' s'') e → RefusesMarking people (MarksBefore people xs s s'') e
  stops_at people people' s s' s'' xs i d same lt a h (Unmarked x) r = (r.0 ++ drop (i + 1) xs, one_later people people' s s' s'' xs i d same lt a h (x ∷ r.0) r.1, subst (λ w. is_alive w x ≡ false) same r.2)
  stops_at people people' s s' s'' xs i d same lt a h (Custom t) r = absurd r
  stops_at people people' s s' s'' xs i d same lt a h OutOfMemory r = (r.0 ++ drop (i + 1) xs, one_later people people' s s' s'' xs i d same lt a h r.0 r.1)
  stops_at people people' s s' s'' xs i d same lt a h IdsExhausted r = (r.0, r.1 ++ drop (i + 1) xs, one_later people people' s s' s'' xs i d same lt a h (r.0 ∷ r.1) r.2)
  stops_at people people' s s' s'' xs i d same lt a h IdTaken r = (r.0, r.1 ++ drop (i + 1) xs, one_later people people' s s' s'' xs i d same lt a h (r.0 ∷ r.1) r.2)

  -- what the listed ones before one refer to has marks, and then it came to what this one refers to
  pub came_to : (people people' : Population) (refs : Entity → List Entity) (start es ys : List Entity) (s s' s'' : Slot M) (i : ℕ) (d : Entity) → people' ≡ people → i < length es
      → es ≡ start ++ new_in (marked_in s) (flat_map refs (take i es)) → AllAlive people (flat_map refs (take i es)) → HasMarked s s' (new_in (marked_in s) (flat_map refs (take i es))) → LeadsTo refs start (get_or es i d) → ys ≡ refs (get_or es i d)
      → (after : List Entity) → MarksBefore people' ys s' s'' after → MarksUpTo people refs start s s'' after
  came_to people people' refs start es ys s s' s'' i d same lt list a h led is after m = record {
    done = take i es;
    here = get_or es i d;
    later = drop (i + 1) es;
    list = sym (split_at es i d lt) ∙ list;
    led = led;
    before = m.before;
    parts = sym is ∙ m.parts;
    alive = alive_both people (flat_map refs (take i es)) m.before a (subst (λ w. AllAlive w m.before) same m.alive);
    marked = marks_more s s' s'' (flat_map refs (take i es)) m.before h m.marked;
  }

-- marking stops where it stops at what one refers to
pub stops_marking : (people people' : Population) (C D : List Entity → Type 0) → people' ≡ people → ((after : List Entity) → C after → D after) → (e : SaveError) → RefusesMarking people' C e → RefusesMarking people D e
stops_marking people people' C D same f (Unmarked x) r = (r.0, f (x ∷ r.0) r.1, subst (λ w. is_alive w x ≡ false) same r.2)
stops_marking people people' C D same f (Custom t) r = absurd r
stops_marking people people' C D same f OutOfMemory r = (r.0, f r.0 r.1)
stops_marking people people' C D same f IdsExhausted r = (r.0, r.1, f (r.0 ∷ r.1) r.2)
stops_marking people people' C D same f IdTaken r = (r.0, r.1, f (r.0 ∷ r.1) r.2)

one_from : (b : Bool) (added : List Entity) (y x : Entity) → Has (cond b added (added ++ y ∷ [])) x → Has added x ⊎ (y ≡ x)
one_from true added y x h = inl h
one_from false added y x h = elim (has_either added (y ∷ []) x h) [ inl l ↦ inl l | inr (inl e) ↦ inr e | inr (inr n) ↦ absurd n ]

added_from : (m : ℕ → Bool) (added xs : List Entity) (x : Entity) → Has (add_new m added xs) x → Has added x ⊎ Has xs x
added_from m added [] x h = inl h
added_from m added (y ∷ xs) x h = elim (added_from m (one_more m added y) xs x h) [
  | inl l ↦ elim (one_from (m (index_of y) || has_index added (index_of y)) added y x l) [ inl k ↦ inl k | inr e ↦ inr (inl e) ]
  | inr r ↦ inr (inr r)
]

pub new_from : (m : ℕ → Bool) (xs : List Entity) (x : Entity) → Has (new_in m xs) x → Has xs x
new_from m xs x h = elim (added_from m [] xs x h) [ inl n ↦ absurd n | inr r ↦ r ]

-- the one of a list of one is one of the other list
pub has_one : {X : Type 0} (xs : List X) (y x : X) → Has xs y → Has (y ∷ []) x → Has xs x
has_one xs y x h (inl e) = subst (Has xs) e h
has_one xs y x h (inr n) = absurd n

-- each of a list that is longer by what one of it refers to is led to
pub led_more : (refs : Entity → List Entity) (start es es' : List Entity) (m : ℕ → Bool) (e : Entity) (xs : List Entity) → Has es e → xs ≡ refs e → es' ≡ es ++ new_in m xs → ((x : Entity) → Has es x → LeadsTo refs start x) → (x : Entity) → Has es' x → LeadsTo refs start x
led_more refs start es es' m e xs h is list led x k = elim (has_either es (new_in m xs) x (subst (λ l. Has l x) list k)) [
  | inl l ↦ led x l
  | inr r ↦ next e x (led e h) (subst (λ l. Has l x) is (new_from m xs x r))
]

-- the references of one more are named
pub named_more : (P : Entity → Type 0) (es es' more : List Entity) (i : ℕ) (d : Entity) → i < length es → es' ≡ es ++ more → ((e : Entity) → Has (take i es) e → P e) → P (get_or es i d) → (e : Entity) → Has (take (i + 1) es') e → P e
named_more P es es' more i d lt list h p e k =
    tested_more P es i d lt h p e (subst (λ l. Has l e) (ap (take (i + 1)) list ∙ take-append-le (i + 1) es more (omega (arith, lt))) k)

-- all of a closed list are named, where the first ones are, and what each refers to
pub closed_named : (P : Entity → Type 0) (refs : Entity → List Entity) (m : ℕ → Bool) (start es : List Entity) → es ≡ start ++ new_in m (flat_map refs es) → ((x : Entity) → Has start x → P x) → ((e : Entity) → Has es e → (x : Entity) → Has (refs e) x → P x) → (x : Entity) → Has es x → P x
closed_named P refs m start es list begun named x h = elim (has_either start (new_in m (flat_map refs es)) x (subst (λ l. Has l x) list h)) [
  | inl l ↦ begun x l
  | inr r ↦ let k = has_flat refs es x (new_from m (flat_map refs es) x r) in named k.0 k.1 x k.2
]

first_none : {M : Type 0} (g : Entity → Option M) (xs : List Entity) (x : Entity) → IsFirstUnnamed g xs x → AllNamed g xs → ⊥
first_none g [] x h a = h
first_none g (y ∷ xs) x (inl h) a = false≢true (sym (ap is_some h.1) ∙ a y (inl refl))
first_none g (y ∷ xs) x (inr h) a = first_none g xs x h.1 (λ z k. a z (inr k))

-- a save of which each reference has a marker is refused for another cause
pub save_refused : {M V D : Type 0} (c : Conversion M V D) (g : Entity → Option M) (values : Entity → V) (es start : List Entity) (people : Population) (s s' : Slot M)
    → ((e : Entity) → Has es e → AllNamed g (c.references (values e))) → MarksThese people (λ e. c.references (values e)) start s s' es
    → (e : SaveError) → RefusesSave c g values es e → RefusesAll c people values start s s' e
save_refused c g values es start people s s' a m (Unmarked x) h = absurd (first_none g (c.references (values h.0)) x h.2 (a h.0 h.1))
save_refused c g values es start people s s' a m (Custom t) h = (es, m, h)
save_refused c g values es start people s s' a m OutOfMemory h = inr (inr (es, m))
save_refused c g values es start people s s' a m IdsExhausted h = absurd h
save_refused c g values es start people s s' a m IdTaken h = absurd h

pub marking_refused : {M V D : Type 0} (c : Conversion M V D) (values : Entity → V) (start : List Entity) (people : Population) (s s' : Slot M) (e : SaveError)
    → RefusesMarking people (MarksUpTo people (λ x. c.references (values x)) start s s') e → RefusesAll c people values start s s' e
marking_refused c values start people s s' (Unmarked x) h = h
marking_refused c values start people s s' (Custom t) h = absurd h
marking_refused c values start people s s' OutOfMemory h = inr (inl h)
marking_refused c values start people s s' IdsExhausted h = h
marking_refused c values start people s s' IdTaken h = h
