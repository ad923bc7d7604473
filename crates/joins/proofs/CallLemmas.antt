-- Calls of a closure at each index of a list.
use Rattle.std.proofs.Common.{◌≡◌, ◌≢◌, ℕ, ◌+◌, ◌<◌, ◌≤◌, ◌++◌, Bool, true, false, List, [], ◌∷◌, length, Some, None, zero, suc, refl, sym, ◌∙◌, arith, ap, subst}
use Rattle.std.specs.Prelude.{Option, is_some, option_map, ◌&&◌, IfSome, slice_index, slice_index_or}
use Rattle.std.specs.List.{Contains}
use Rattle.std.specs.List.Sorted.{IsStrictlyIncreasing}
use Rattle.std.specs.FinMap as map
use Rattle.std.specs.Ordering.{nat_cmp}
use Rattle.std.specs.Borrow.{MutBor}
use Rattle.std.proofs.lemmas.Bool.{true≢false, and_parts}
use Rattle.hibits.specs.Left.{left, left-contains, contains-left, left-ascends}
use Rattle.hibits.specs.declared.limits.TheConstants.{INDEX_LIMIT}
use Rattle.storages.specs.Finds.{got_put, got_kept}
use Rattle.storages.specs.declared.event.ComponentEvent.TheVariants.{Modified}
use Rattle.storages.specs.Slot.{Slot, with_option, Becomes, IsSame}
use Rattle.storages.specs.Meaning.{HasRoom}
use Rattle.joins.specs.Each.{each_becomes}
use Rattle.joins.specs.Visits.{CalledAt, CalledAtEach, ChangedAt, StoppedIn, StoppedAt, RefusedIn, RefusedAt}

-- what holds of an option's value holds of the value that it is
pub at_some : (P : ℕ → Type 0) (o : Option ℕ) (i : ℕ) → o ≡ Some i → IfSome o P → P i
at_some P None i e h = cc
at_some P (Some j) i e h = let same : j ≡ i = cc in subst P same h

pub moved_over : (xs : List ℕ) (x : ℕ) (ys : List ℕ) → (xs ++ (x ∷ [])) ++ ys ≡ xs ++ (x ∷ ys)
moved_over [] x ys = refl
moved_over (z ∷ xs) x ys = ap (λ (r : List ℕ). z ∷ r) (moved_over xs x ys)

pub one_longer : (x : ℕ) (xs : List ℕ) → length (x ∷ xs) ≡ length xs + 1
one_longer x xs = omega arith

-- room for some events is room for fewer
pub room_less : (o : Option ℕ) (n m : ℕ) → m ≤ n → HasRoom o n → HasRoom o m
room_less None n m le h = h
room_less (Some k) n m le h = omega (arith, le, h)

-- ---- lists that ascend
pub contains_first : (x : ℕ) (xs : List ℕ) → Contains (x ∷ xs) x
contains_first x xs = (zero, omega arith, refl)

pub contains_behind : (x i : ℕ) (xs : List ℕ) → Contains xs i → Contains (x ∷ xs) i
contains_behind x i xs c = let lt = c.1 in (suc c.0, omega arith, c.2)

pub first_or_behind : (P : Type 0) (x i : ℕ) (xs : List ℕ) → Contains (x ∷ xs) i → (x ≡ i → P) → (Contains xs i → P) → P
first_or_behind P x i xs (zero, lt, e) here behind = here e
first_or_behind P x i xs (suc k, lt, e) here behind = behind (k, omega (arith, lt), e)

-- a list that ascends does so behind its first
pub tail_ascends : (x : ℕ) (xs : List ℕ) → IsStrictlyIncreasing (x ∷ xs) → IsStrictlyIncreasing xs
tail_ascends x xs h k lt =
    let e : suc k + 1 ≡ suc (k + 1) = omega arith in
    subst (λ (n : ℕ). slice_index xs k < slice_index (x ∷ xs) n) e (h (suc k) (omega (arith, lt)))

-- and has its first nowhere else
first_below : (x : ℕ) (xs : List ℕ) → IsStrictlyIncreasing (x ∷ xs) → (k : ℕ) → k < length xs → x < slice_index xs k
first_below x xs h zero lt = h zero (omega (arith, lt))
first_below x xs h (suc k) lt =
    let before = first_below x xs h k (omega (arith, lt)) in
    let e : k + 1 ≡ suc k = omega arith in
    let next = subst (λ (n : ℕ). slice_index xs k < slice_index xs n) e (tail_ascends x xs h k (omega (arith, lt))) in
    omega (arith, before, next)

same_place : (xs : List ℕ) (k d e : ℕ) → k < length xs → slice_index_or xs k d ≡ slice_index_or xs k e
same_place [] k d e lt = absurd (omega (arith, lt))
same_place (x ∷ xs) zero d e lt = refl
same_place (x ∷ xs) (suc k) d e lt = same_place xs k d e (omega (arith, lt))

pub first_once : (x : ℕ) (xs : List ℕ) → IsStrictlyIncreasing (x ∷ xs) → (i : ℕ) → Contains xs i → x ≢ i
first_once x xs h i c e =
    let below = first_below x xs h c.0 c.1 in
    let at : slice_index xs c.0 ≡ i = same_place xs c.0 0 i c.1 ∙ c.2 in
    omega (arith, below, at, e)

-- ---- calls
module _ {T I R F : Type 0} (gives : ℕ → I → Type 0) (step : F → MutBor T → I → R → MutBor T → F → Type 0) (r : R) where
  -- a call at an index, after steps that left the slot as it was
  pub called_here : (i : ℕ) (f g : F) (s t s' : Slot T) (component : MutBor T) (item : I) (after_call : MutBor T)
      → t ≡ s → map.get t.map i ≡ Some component.now → gives i item → step f component item r after_call g
      → Becomes t s' (map.insert t.map i after_call.now) (Modified i) → CalledAt gives step r i f s g s'
  called_here i f g s t s' component item after_call same was given call becomes =
      subst (λ (u : Slot T). CalledAt gives step r i f u g s') same (record { component = component; item = item; after_call = after_call; was = was; beside = given; call = call; becomes = becomes })

  -- one call more
  pub one_more : (is : List ℕ) (i : ℕ) (f : F) (s : Slot T) (g : F) (m : Slot T) (f' : F) (s' : Slot T)
      → CalledAtEach gives step r is f s g m → CalledAt gives step r i g m f' s' → CalledAtEach gives step r (is ++ (i ∷ [])) f s f' s'
  one_more [] i f s g m f' s' c d = (f', s', subst (λ (t : Slot T). CalledAt gives step r i f t f' s') c.1 (subst (λ (h : F). CalledAt gives step r i h m f' s') c.0 d), (refl, refl))
  one_more (j ∷ is) i f s g m f' s' c d = (c.0, c.1, c.2, one_more is i c.0 c.1 g m f' s' c.3 d)

  -- an index that is not among them keeps what it had
  pub kept : (is : List ℕ) (q : ℕ) (f : F) (s : Slot T) (f' : F) (s' : Slot T) → (Contains is q → ⊥) → CalledAtEach gives step r is f s f' s' → map.get s'.map q ≡ map.get s.map q
  kept [] q f s f' s' other c = ap (λ (t : Slot T). map.get t.map q) c.1
  kept (i ∷ is) q f s f' s' other c =
      kept is q c.0 c.1 f' s' (λ d. other (contains_behind i q is d)) c.3
      ∙ got_kept s.map c.1.map i c.2.after_call.now q (λ e. other (zero, omega arith, sym e)) c.2.becomes.map

  -- one that is among them was called at once, if they ascend
  pub found : (is : List ℕ) (q : ℕ) (f : F) (s : Slot T) (f' : F) (s' : Slot T) → IsStrictlyIncreasing is → Contains is q → CalledAtEach gives step r is f s f' s' → ChangedAt gives step r s s' q
  found [] q f s f' s' rise d c = absurd (let lt = d.1 in omega (arith, lt))
  found (i ∷ is) q f s f' s' rise d c =
      first_or_behind (ChangedAt gives step r s s' q) i q is d
      (λ e. subst (λ (k : ℕ). ChangedAt gives step r s s' k) e (record {
        state = f;
        next = c.0;
        component = c.2.component;
        item = c.2.item;
        after_call = c.2.after_call;
        was = c.2.was;
        beside = c.2.beside;
        call = c.2.call;
        becomes = kept is i c.0 c.1 f' s' (λ x. first_once i is rise i x refl) c.3 ∙ got_put s.map c.1.map i c.2.after_call.now c.2.becomes.map;
      }))
      (λ x. let k = found is q c.0 c.1 f' s' (tail_ascends i is rise) x c.3 in record {
        state = k.state;
        next = k.next;
        component = k.component;
        item = k.item;
        after_call = k.after_call;
        was = sym (got_kept s.map c.1.map i c.2.after_call.now q (λ e. first_once i is rise q x (sym e)) c.2.becomes.map) ∙ k.was;
        beside = k.beside;
        call = k.call;
        becomes = k.becomes;
      })

  -- where each call leaves what a function makes of the component, the map is what the function makes of it
  pub becomes_each : (to : ℕ → T → T)
      → ((i : ℕ) (f g : F) (x : MutBor T) (z : I) (y : MutBor T) → gives i z → step f x z r y g → y.now ≡ to i x.now)
      → (is : List ℕ) (f : F) (s : Slot T) (f' : F) (s' : Slot T) → CalledAtEach gives step r is f s f' s' → s'.map ≡ each_becomes to is s.map
  becomes_each to h [] f s f' s' c = ap (λ (t : Slot T). t.map) c.1
  becomes_each to h (i ∷ is) f s f' s' c =
      let at = c.2 in
      let put : c.1.map ≡ with_option s.map i (option_map (to i) (map.get s.map i)) =
      at.becomes.map ∙ ap (λ (v : T). map.insert s.map i v) (h i f c.0 at.component at.item at.after_call at.beside at.call)
      ∙ sym (ap (λ (o : Option T). with_option s.map i (option_map (to i) o)) at.was) in
      becomes_each to h is c.0 c.1 f' s' c.3 ∙ ap (each_becomes to is) put

  -- nothing is left, and the slot stays
  pub all_done : (is done rest : List ℕ) (f : F) (s : Slot T) (f' : F) (s' t : Slot T) → is ≡ done ++ rest → rest ≡ [] → t ≡ s'
      → CalledAtEach gives step r done f s f' s' → CalledAtEach gives step r is f s f' t
  all_done is done rest f s f' s' t e none same c =
      subst (λ (u : Slot T). CalledAtEach gives step r is f s f' u) (sym same) (subst (λ (l : List ℕ). CalledAtEach gives step r l f s f' s') (sym (e ∙ ap (λ (l : List ℕ). done ++ l) none ∙ right done)) c)
    where
      right : (l : List ℕ) → l ++ [] ≡ l
      right [] = refl
      right (x ∷ xs) = ap (λ (ys : List ℕ). x ∷ ys) (right xs)

  -- no call could be made at the next of them
  pub stopped_here : (is done rest : List ℕ) (i : ℕ) (left : List ℕ) (f : F) (s : Slot T) (f' : F) (m t s' : Slot T) → is ≡ done ++ rest → rest ≡ i ∷ left → t ≡ m
      → CalledAtEach gives step r done f s f' m → IsSame t s' → StoppedIn gives step r is f s s'
  stopped_here is done rest i left f s f' m t s' e next same c h = record {
    done = done;
    at = i;
    left = left;
    split = e ∙ ap (λ (l : List ℕ). done ++ l) next;
    state = f';
    mid = m;
    calls = c;
    same = subst (λ (u : Slot T). IsSame u s') same h;
  }

  -- and a cursor stands at it
  pub stands_here : (is done rest : List ℕ) (i : ℕ) (left : List ℕ) (f : F) (s : Slot T) (f' : F) (m t s' : Slot T) → is ≡ done ++ rest → rest ≡ i ∷ left → t ≡ m
      → CalledAtEach gives step r done f s f' m → IsSame t s' → (stands : Option ℕ) (behind : List ℕ) → stands ≡ Some i → behind ≡ left → StoppedAt gives step r is f s s' stands behind
  unfolding stopped_here
  stands_here is done rest i left f s f' m t s' e next same c h stands behind at ahead = record {
    stop = stopped_here is done rest i left f s f' m t s' e next same c h;
    here = at;
    rest = ahead;
  }

module _ {T I R F : Type 0} (gives : ℕ → I → Type 0) (step : F → MutBor T → I → R → MutBor T → F → Type 0) (r refusal : R) where
  -- the call at the next of them refused
  pub refused_here : (is done rest : List ℕ) (i : ℕ) (left : List ℕ) (f : F) (s : Slot T) (f' : F) (m : Slot T) (g : F) (s' : Slot T) → is ≡ done ++ rest → rest ≡ i ∷ left
      → CalledAtEach gives step r done f s f' m → (answer : R) → answer ≡ refusal → CalledAt gives step answer i f' m g s' → RefusedIn gives step r refusal is f s s'
  refused_here is done rest i left f s f' m g s' e next c answer this d = record {
    done = done;
    at = i;
    left = left;
    split = e ∙ ap (λ (l : List ℕ). done ++ l) next;
    state = f';
    mid = m;
    calls = c;
    last = g;
    call = subst (λ (x : R). CalledAt gives step x i f' m g s') this d;
  }

  -- and a cursor stands at it
  pub refused_stands_here : (is done rest : List ℕ) (i : ℕ) (left : List ℕ) (f : F) (s : Slot T) (f' : F) (m : Slot T) (g : F) (s' : Slot T) → is ≡ done ++ rest → rest ≡ i ∷ left
      → CalledAtEach gives step r done f s f' m → (answer : R) → answer ≡ refusal → CalledAt gives step answer i f' m g s'
      → (stands : Option ℕ) (behind : List ℕ) → stands ≡ Some i → behind ≡ left → RefusedAt gives step r refusal is f s s' stands behind
  unfolding refused_here
  refused_stands_here is done rest i left f s f' m g s' e next c answer this d stands behind at ahead = record {
    stop = refused_here is done rest i left f s f' m g s' e next c answer this d;
    here = at;
    rest = ahead;
  }

-- the indices that are left keep what they had where the first of them is written to
pub ahead_keeps : {T : Type 0} (rest left : List ℕ) (i : ℕ) (first now next : map.FinMap nat_cmp T) (x : T) → IsStrictlyIncreasing rest → rest ≡ i ∷ left → next ≡ map.insert now i x
    → ((q : ℕ) → Contains rest q → map.get now q ≡ map.get first q) → (q : ℕ) → Contains left q → map.get next q ≡ map.get first q
ahead_keeps rest left i first now next x rise e put same q c =
    got_kept now next i x q (λ k. first_once i left (subst IsStrictlyIncreasing e rise) q c (sym k)) put
    ∙ same q (subst (λ (l : List ℕ). Contains l q) (sym e) (contains_behind i q left c))

-- ---- calls over a whole storage
-- what is given by less is given by more
weaker : {T I R F : Type 0} (gives gives' : ℕ → I → Type 0) (step : F → MutBor T → I → R → MutBor T → F → Type 0) (r : R)
    → ((i : ℕ) (z : I) → gives i z → gives' i z)
    → (is : List ℕ) (f : F) (s : Slot T) (f' : F) (s' : Slot T) → CalledAtEach gives step r is f s f' s' → CalledAtEach gives' step r is f s f' s'
weaker gives gives' step r more [] f s f' s' c = c
weaker gives gives' step r more (i ∷ is) f s f' s' c =
    let at = c.2 in
    (c.0, c.1, record { component = at.component; item = at.item; after_call = at.after_call; was = at.was; beside = more i at.item at.beside; call = at.call; becomes = at.becomes }, weaker gives gives' step r more is c.0 c.1 f' s' c.3)

both_are : (a b : Bool) → a ≡ true → b ≡ true → (a && b) ≡ true
both_are true b e f = f
both_are false b e f = cc

-- the calls of a cursor that was made over a slot and for these indices, whose storage ends as e
module _ {T I R F : Type 0} (gives gives' : ℕ → I → Type 0) (step : F → MutBor T → I → R → MutBor T → F → Type 0) (r : R) (more : (i : ℕ) (z : I) → gives i z → gives' i z)
    (is js : List ℕ) (f : F) (t s s' e : Slot T) (these : is ≡ js) (made : t ≡ s) (end : e ≡ s') where
  pub carried : (f' : F) → CalledAtEach gives step r is f t f' s' → CalledAtEach gives' step r js f s f' e
  carried f' c =
      subst (λ (v : Slot T). CalledAtEach gives' step r js f s f' v) (sym end) (subst (λ (u : Slot T). CalledAtEach gives' step r js f u f' s') made (subst (λ (l : List ℕ). CalledAtEach gives' step r l f t f' s') these (weaker gives gives' step r more is f t f' s' c)))

  stopped_as : StoppedIn gives step r is f t s' → StoppedIn gives' step r js f t s'
  stopped_as c = record {
    done = c.done;
    at = c.at;
    left = c.left;
    split = sym these ∙ c.split;
    state = c.state;
    mid = c.mid;
    calls = weaker gives gives' step r more c.done f t c.state c.mid c.calls;
    same = c.same;
  }

  pub stopped : StoppedIn gives step r is f t s' → StoppedIn gives' step r js f s e
  stopped c = subst (λ (v : Slot T). StoppedIn gives' step r js f s v) (sym end) (subst (λ (u : Slot T). StoppedIn gives' step r js f u s') made (stopped_as c))

module _ {T I R F : Type 0} (gives gives' : ℕ → I → Type 0) (step : F → MutBor T → I → R → MutBor T → F → Type 0) (r refusal : R) (more : (i : ℕ) (z : I) → gives i z → gives' i z)
    (is js : List ℕ) (f : F) (t s s' e : Slot T) (these : is ≡ js) (made : t ≡ s) (end : e ≡ s') where
  refused_as : RefusedIn gives step r refusal is f t s' → RefusedIn gives' step r refusal js f t s'
  refused_as c =
      let at = c.call in
      record {
        done = c.done;
        at = c.at;
        left = c.left;
        split = sym these ∙ c.split;
        state = c.state;
        mid = c.mid;
        calls = weaker gives gives' step r more c.done f t c.state c.mid c.calls;
        last = c.last;
        call = record { component = at.component; item = at.item; after_call = at.after_call; was = at.was; beside = more c.at at.item at.beside; call = at.call; becomes = at.becomes };
      }

  pub refused : RefusedIn gives step r refusal is f t s' → RefusedIn gives' step r refusal js f s e
  refused c = subst (λ (v : Slot T). RefusedIn gives' step r refusal js f s v) (sym end) (subst (λ (u : Slot T). RefusedIn gives' step r refusal js f u s') made (refused_as c))

-- the calls at all indices that a storage and a join share
module _ {T I R F : Type 0} (gives : ℕ → I → Type 0) (step : F → MutBor T → I → R → MutBor T → F → Type 0) (r : R) (s s' : Slot T) (p : ℕ → Bool) (f f' : F)
    (calls : CalledAtEach gives step r (left (λ i. map.contains_key s.map i && p i) 0) f s f' s') where
  pub each_of : (q : ℕ) → q < INDEX_LIMIT → map.contains_key s.map q ≡ true → p q ≡ true → ChangedAt gives step r s s' q
  each_of q lt has is =
      let d = left-contains (λ i. map.contains_key s.map i && p i) 0 q (omega arith) lt (both_are _ _ has is) in
      found gives step r _ q f s f' s' (left-ascends _ _) d calls

  pub others_of : (q : ℕ) → p q ≡ false → map.get s'.map q ≡ map.get s.map q
  others_of q is =
      kept gives step r _ q f s f' s' (λ d. true≢false (sym (and_parts _ _ (contains-left (λ i. map.contains_key s.map i && p i) 0 q d).2).1 ∙ is)) calls

  pub absent_of : (q : ℕ) → map.get s.map q ≡ None → map.get s'.map q ≡ None
  absent_of q none =
      kept gives step r _ q f s f' s' (λ d. true≢false (sym (and_parts _ _ (contains-left (λ i. map.contains_key s.map i && p i) 0 q d).2).0 ∙ ap is_some none)) calls ∙ none
