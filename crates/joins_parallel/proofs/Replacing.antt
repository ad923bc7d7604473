-- On replacements, one after another.
use Rattle.std.proofs.Common.{◌≡◌, ℕ, ◌+◌, ◌^◌, ◌<◌, ◌≤◌, ◌++◌, Bool, true, false, List, [], ◌∷◌, Some, None, is_some, length, length-append, suc, arith, refl, ap, sym, ◌∙◌, get_or, subst}
use Rattle.std.proofs.lemmas.List.Elements.{All-cons, All-nil, All-tail}
use Rattle.std.specs.Prelude.{Option, IsSome, ◌&&◌}
use Rattle.std.specs.List.{AllZip, All}
use Rattle.hibits.specs.Left.{left, left-each, left-length}
use Rattle.std.specs.FinMap as map
use Rattle.std.specs.Ordering.{nat_cmp}
use Rattle.storages.specs.declared.event.ComponentEvent.TheVariants.{Modified}
use Rattle.storages.specs.Channel.{Channel, emitted}
use Rattle.storages.specs.Meaning.{HasRoom}
use Rattle.storages.specs.Slot.{Slot, Becomes, IsSame}
use Rattle.joins_parallel.specs.Cutting.{Asked, values_of}
use Rattle.joins_parallel.proofs.Asking.{all_left, all_right}
use Rattle.joins_parallel.specs.Replacing.{put_all, modified, somes, Replaces, given, at_index, put_each, told_each, PutsEach}

some_by : {T : Type 0} (o : Option T) → is_some o ≡ true → IsSome o
some_by None h = cc
some_by (Some x) h = search

pub some_of_key : {T : Type 0} (m : map.FinMap nat_cmp T) (q : ℕ) → map.contains_key m q ≡ true → IsSome (map.get m q)
some_of_key m q h = some_by (map.get m q) h

module _ {T : Type 0} where
  put_both : (qs ps : List (ℕ × T)) (m : map.FinMap nat_cmp T) → put_each (qs ++ ps) m ≡ put_each ps (put_each qs m)
  put_both [] ps m = refl
  put_both (q ∷ qs) ps m = put_both qs ps (map.insert m q.0 q.1)

  told_both : (qs ps : List (ℕ × T)) (c : Channel) → told_each (qs ++ ps) c ≡ told_each ps (told_each qs c)
  told_both [] ps c = refl
  told_both (q ∷ qs) ps c = told_both qs ps (emitted (Modified q.0) c)

module _ {T : Type 0} where
  put_given : (is : List ℕ) (ys : List (Option T)) (m : map.FinMap nat_cmp T) → put_each (given is ys) m ≡ put_all is ys m
  put_given [] ys m = refl
  put_given (i ∷ is) [] m = refl
  put_given (i ∷ is) (None ∷ ys) m = put_given is ys m
  put_given (i ∷ is) (Some x ∷ ys) m = put_given is ys (map.insert m i x)

  told_given : (is : List ℕ) (ys : List (Option T)) (c : Channel) → told_each (given is ys) c ≡ modified is ys c
  told_given [] ys c = refl
  told_given (i ∷ is) [] c = refl
  told_given (i ∷ is) (None ∷ ys) c = told_given is ys c
  told_given (i ∷ is) (Some x ∷ ys) c = told_given is ys (emitted (Modified i) c)

  given_length : (is : List ℕ) (ys : List (Option T)) → length is ≡ length ys → length (given is ys) ≡ somes ys
  given_length [] [] e = refl
  given_length [] (y ∷ ys) e = absurd (omega (arith, e))
  given_length (i ∷ is) [] e = absurd (omega (arith, e))
  given_length (i ∷ is) (None ∷ ys) e = given_length is ys (omega (arith, e))
  given_length (i ∷ is) (Some x ∷ ys) e = let rest = given_length is ys (omega (arith, e)) in omega (arith, rest)

  -- what holds of each index of a list holds of the index of each value that is given
  pub given_each : (P : ℕ → Type 0) (is : List ℕ) (ys : List (Option T)) → All P is → All (λ (p : ℕ × T). P p.0) (given is ys)
  given_each P [] ys h = All-nil (λ (p : ℕ × T). P p.0)
  given_each P (i ∷ is) [] h = All-nil (λ (p : ℕ × T). P p.0)
  given_each P (i ∷ is) (None ∷ ys) h = given_each P is ys (All-tail P i is h)
  given_each P (i ∷ is) (Some x ∷ ys) h = All-cons (λ (p : ℕ × T). P p.0) (i, x) (given is ys) (h 0 0 (omega arith)) (given_each P is ys (All-tail P i is h))

  -- there are no more of them than indices
  pub given_few : (is : List ℕ) (ys : List (Option T)) → length (given is ys) ≤ length is
  given_few [] ys = omega arith
  given_few (i ∷ is) [] = omega arith
  given_few (i ∷ is) (None ∷ ys) = let rest = given_few is ys in omega arith
  given_few (i ∷ is) (Some x ∷ ys) = let rest = given_few is ys in omega arith

  pub none_given : (is : List ℕ) (ys : List (Option T)) → is ≡ [] → length (given is ys) ≡ 0
  none_given is ys e = let few = given_few is ys in let l = ap length e in omega (arith, few, l)

  -- so they can be counted
  pub few_given : (ps : List (ℕ × T)) (is : List ℕ) (ys : List (Option T)) (p : ℕ → Bool) → ps ≡ given is ys → is ≡ left p 0 → length ps < 2 ^ 64
  few_given ps is ys p e f = let few = given_few is ys in let l = ap length e in let k = ap length f in let most = left-length p 0 in omega (arith, few, l, k, most)

  -- the values that are given were put, so all answers were
  pub puts_given : (s t : Slot T) (is : List ℕ) (ys : List (Option T)) → length is ≡ length ys → PutsEach s t (given is ys) → Replaces s t is ys
  puts_given s t is ys e w = record {
    map = w.map ∙ put_given is ys s.map;
    extent = w.extent;
    order = w.order;
    channel = w.channel ∙ told_given is ys s.channel;
    needs_room = w.needs_room;
    room = λ n h. w.room n (subst (λ (k : ℕ). HasRoom s.room (n + k)) (sym (given_length is ys e)) h);
    needs_inner = w.needs_inner;
    inner_room = λ n h. w.inner_room n (subst (λ (k : ℕ). HasRoom s.inner_room (n + k)) (sym (given_length is ys e)) h);
  }

-- what is still to be put into s, where all of ps₀ was to be put into s₀ and ps is left
pub record IsPutting {T : Type 0} (s s₀ : Slot T) (ps ps₀ : List (ℕ × T)) : Type 0 where
  pub keys : (q : ℕ) → map.contains_key s.map q ≡ map.contains_key s₀.map q
  pub present : All (λ (p : ℕ × T). map.contains_key s₀.map p.0 ≡ true) ps
  pub map : put_each ps s.map ≡ put_each ps₀ s₀.map
  pub extent : s.extent ≡ s₀.extent
  pub order : s.order ≡ s₀.order
  pub channel : told_each ps s.channel ≡ told_each ps₀ s₀.channel
  pub needs_room : is_some s.room ≡ is_some s₀.room
  pub needs_inner : is_some s.inner_room ≡ is_some s₀.inner_room
  pub spare : (n : ℕ) → HasRoom s₀.room (n + length ps₀) → HasRoom s.room (n + length ps)
  pub inner_spare : (n : ℕ) → HasRoom s₀.inner_room (n + length ps₀) → HasRoom s.inner_room (n + length ps)
  pub room : HasRoom s.room (length ps)

same_room : (r : Option ℕ) (a b : ℕ) → a ≡ b → HasRoom r a → HasRoom r b
same_room r a b e h = subst (λ (k : ℕ). HasRoom r k) e h

less_room : (r : Option ℕ) (a b : ℕ) → b ≤ a → HasRoom r a → HasRoom r b
less_room None a b le h = tt
less_room (Some m) a b le h = omega (arith, le, h)

module _ {T : Type 0} where
  pub all_put : (s : Slot T) (ps : List (ℕ × T)) → All (λ (p : ℕ × T). map.contains_key s.map p.0 ≡ true) ps → HasRoom s.room (length ps) → IsPutting s s ps ps
  all_put s ps present room = record {
    keys = λ q. refl;
    present = present;
    map = refl;
    extent = refl;
    order = refl;
    channel = refl;
    needs_room = refl;
    needs_inner = refl;
    spare = λ n h. h;
    inner_spare = λ n h. h;
    room = room;
  }

  module _ (s s₀ : Slot T) (ps ps₀ : List (ℕ × T)) where
    pub room_for_one : (p : ℕ × T) → IsPutting s s₀ (p ∷ ps) ps₀ → HasRoom s.room 1
    room_for_one p w = less_room s.room (length (p ∷ ps)) 1 (omega arith) w.room

    pub is_present : (p : ℕ × T) → IsPutting s s₀ (p ∷ ps) ps₀ → IsSome (map.get s.map p.0)
    is_present p w = some_of_key s.map p.0 (w.keys p.0 ∙ w.present 0 p (omega arith))

    -- of a list of values
    module _ (qs : List (ℕ × T)) (w : IsPutting s s₀ (qs ++ ps) ps₀) where
      pub part_room : HasRoom s.room (length qs)
      part_room = let e = length-append qs ps in less_room s.room (length (qs ++ ps)) (length qs) (omega arith) w.room

      pub part_present : All (λ (p : ℕ × T). map.contains_key s.map p.0 ≡ true) qs
      part_present k d lt =
          w.keys (get_or qs k d).0 ∙ all_left (λ (p : ℕ × T). map.contains_key s₀.map p.0 ≡ true) qs ps w.present k d lt

  module _ (s t s₀ : Slot T) (ps ps₀ : List (ℕ × T)) where
    -- one value is put
    pub put_one : (p : ℕ × T) → IsPutting s s₀ (p ∷ ps) ps₀ → Becomes s t (map.insert s.map p.0 p.1) (Modified p.0)
        → ((q : ℕ) → map.contains_key t.map q ≡ map.contains_key s.map q) → IsPutting t s₀ ps ps₀
    put_one p w b keys = record {
      keys = λ q. keys q ∙ w.keys q;
      present = λ k d lt. w.present (suc k) d (omega arith);
      map = ap (put_each ps) b.map ∙ w.map;
      extent = b.extent ∙ w.extent;
      order = b.order ∙ w.order;
      channel = ap (told_each ps) b.channel ∙ w.channel;
      needs_room = b.needs_room ∙ w.needs_room;
      needs_inner = b.needs_inner ∙ w.needs_inner;
      spare = λ n h. b.room (n + length ps) (same_room s.room (n + length (p ∷ ps)) (n + length ps + 1) (omega arith) (w.spare n h));
      inner_spare = λ n h. b.inner_room (n + length ps) (same_room s.inner_room (n + length (p ∷ ps)) (n + length ps + 1) (omega arith) (w.inner_spare n h));
      room = b.room (length ps) (same_room s.room (length (p ∷ ps)) (length ps + 1) (omega arith) w.room);
    }

    -- a list of values is put
    module _ (qs : List (ℕ × T)) (w : IsPutting s s₀ (qs ++ ps) ps₀) where
      sum : length (qs ++ ps) ≡ length qs + length ps
      sum = length-append qs ps

      pub put_part : PutsEach s t qs → IsPutting t s₀ ps ps₀
      put_part b =
          let e = sum in
          record {
            keys = λ q. b.keys q ∙ w.keys q;
            present = all_right (λ (p : ℕ × T). map.contains_key s₀.map p.0 ≡ true) qs ps w.present;
            map = ap (put_each ps) b.map ∙ sym (put_both qs ps s.map) ∙ w.map;
            extent = b.extent ∙ w.extent;
            order = b.order ∙ w.order;
            channel = ap (told_each ps) b.channel ∙ sym (told_both qs ps s.channel) ∙ w.channel;
            needs_room = b.needs_room ∙ w.needs_room;
            needs_inner = b.needs_inner ∙ w.needs_inner;
            spare = λ n h. b.room (n + length ps) (same_room s.room (n + length (qs ++ ps)) (n + length ps + length qs) (omega arith) (w.spare n h));
            inner_spare = λ n h. b.inner_room (n + length ps) (same_room s.inner_room (n + length (qs ++ ps)) (n + length ps + length qs) (omega arith) (w.inner_spare n h));
            room = b.room (length ps) (same_room s.room (length (qs ++ ps)) (length ps + length qs) (omega arith) w.room);
          }

  -- nothing is left
  pub put_all_of : (s s₀ : Slot T) (ps₀ : List (ℕ × T)) → IsPutting s s₀ [] ps₀ → PutsEach s₀ s ps₀
  put_all_of s s₀ ps₀ w = record {
    keys = w.keys;
    map = w.map;
    extent = w.extent;
    order = w.order;
    channel = w.channel;
    needs_room = w.needs_room;
    room = λ n h. same_room s.room (n + 0) n (omega arith) (w.spare n h);
    needs_inner = w.needs_inner;
    inner_room = λ n h. same_room s.inner_room (n + 0) n (omega arith) (w.inner_spare n h);
  }

pub both_left : (a b : Bool) → (a && b) ≡ true → a ≡ true
both_left true b e = refl
both_left false b e = cc

pub both_right : (a b : Bool) → (a && b) ≡ true → b ≡ true
both_right true b e = e
both_right false b e = cc

pub zip_lengths : {X Y : Type 0} (R : X → Y → Type 0) (xs : List X) (ys : List Y) → AllZip R xs ys → length xs ≡ length ys
zip_lengths R [] [] h = refl
zip_lengths R [] (y ∷ ys) h = absurd h
zip_lengths R (x ∷ xs) [] h = absurd h
zip_lengths R (x ∷ xs) (y ∷ ys) h = ap suc (zip_lengths R xs ys h.1)

pub after_room : {T : Type 0} (s s₁ s₂ : Slot T) (is : List ℕ) (ys : List (Option T)) → IsSame s s₁ → Replaces s₁ s₂ is ys → Replaces s s₂ is ys
after_room s s₁ s₂ is ys a b = record {
  map = b.map ∙ ap (put_all is ys) a.map;
  extent = b.extent ∙ a.extent;
  channel = b.channel ∙ ap (modified is ys) a.channel;
  needs_room = b.needs_room ∙ a.needs_room;
  order = b.order ∙ a.order;
  room = λ n h. b.room n (a.room (n + somes ys) h);
  needs_inner = b.needs_inner ∙ a.needs_inner;
  inner_room = λ n h. b.inner_room n (a.inner_room (n + somes ys) h);
}

-- each index of a list of those that pass a test passes it
pub each_of : (p : ℕ → Bool) (xs : List ℕ) → xs ≡ left p 0 → (k d : ℕ) → k < length xs → p (get_or xs k d) ≡ true
each_of p xs e k d lt = rw e (left-each p 0 k d (rw e at lt))

-- each index of a list is one of both
pub each_left : (p q : ℕ → Bool) (xs : List ℕ) → xs ≡ left (λ i. p i && q i) 0 → (k d : ℕ) → k < length xs → p (get_or xs k d) ≡ true
each_left p q xs e k d lt = both_left (p (get_or xs k d)) (q (get_or xs k d)) (each_of (λ i. p i && q i) xs e k d lt)

pub each_right : (p q : ℕ → Bool) (xs : List ℕ) → xs ≡ left (λ i. p i && q i) 0 → (k d : ℕ) → k < length xs → q (get_or xs k d) ≡ true
each_right p q xs e k d lt = both_right (p (get_or xs k d)) (q (get_or xs k d)) (each_of (λ i. p i && q i) xs e k d lt)

-- no room is wanted for nothing
pub room_for_none : (o : Option ℕ) (n : ℕ) → n ≡ 0 → HasRoom o n
room_for_none None n e = tt
room_for_none (Some m) n e = omega (arith, e)

module _ {T : Type 0} where
  with_first : (y : Option T) (i : ℕ) (is : List ℕ) (ys : List (Option T)) (os : List (Option (ℕ × T))) → values_of os ≡ given is ys → values_of (at_index i y ∷ os) ≡ given (i ∷ is) (y ∷ ys)
  with_first None i is ys os e = e
  with_first (Some x) i is ys os e = ap (λ ps. (i, x) ∷ ps) e

  -- the values that the indices of a list answered, with their indices
  pub asked_given : (P : ℕ → Option T → Type 0) (is : List ℕ) (os : List (Option (ℕ × T))) → AllZip (λ i o. (y : Option T) × P i y × (o ≡ at_index i y)) is os → (ys : List (Option T)) × AllZip P is ys × (values_of os ≡ given is ys)
  asked_given P [] [] h = ([], tt, refl)
  asked_given P [] (o ∷ os) h = absurd h
  asked_given P (i ∷ is) [] h = absurd h
  asked_given P (i ∷ is) (o ∷ os) h =
      let rest = asked_given P is os h.1 in
      (h.0.0 ∷ rest.0, (h.0.1, rest.1), ap (λ x. values_of (x ∷ os)) h.0.2 ∙ with_first h.0.0 i is rest.0 os rest.2)

-- each index answered
pub asked_each : {R : Type 0} (P : ℕ → R → Type 0) (is : List ℕ) (os : List (Option R)) → AllZip (λ i o. (y : R) × P i y × (o ≡ Some y)) is os → AllZip P is (values_of os)
asked_each P [] [] h = tt
asked_each P [] (o ∷ os) h = absurd h
asked_each P (i ∷ is) [] h = absurd h
asked_each P (i ∷ is) (o ∷ os) h = rw h.0.2 (h.0.1, asked_each P is os h.1)

module _ {X : Type 0} where
  values_few : (os : List (Option X)) → length (values_of os) ≤ length os
  values_few [] = omega arith
  values_few (None ∷ os) = let rest = values_few os in omega arith
  values_few (Some x ∷ os) = let rest = values_few os in omega arith

  -- there are no more values than indices
  pub asked_few : (R : ℕ → Option X → Type 0) (is : List ℕ) (xs : List X) → Asked R is xs → length xs ≤ length is
  asked_few R is xs a = let l = zip_lengths R is a.options a.each in let v = values_few a.options in let k = ap length a.values in omega (arith, l, v, k)
