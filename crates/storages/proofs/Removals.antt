-- On the removal of the components of a list of entities.
use Rattle.std.proofs.Common.{◌≡◌, ℕ, ◌+◌, Bool, true, false, nat_eq, cond, List, [], ◌∷◌, refl, ap, sym, ◌∙◌, Some, None, is_some, not, ◌&&◌, ◌||◌, length, suc, arith, add-one, ◌<◌, drop, get_or, subst}
use Rattle.std.proofs.lemmas.List.{drop_more}
use Rattle.std.specs.Prelude.{Option}
use Rattle.std.specs.FinMap as map
use Rattle.std.specs.Ordering.{nat_cmp}
use Rattle.entities.specs.declared.entity.Entity.{Entity}
use Rattle.entities.specs.Population.{index_of}
use Rattle.entities.specs.Deaths.{has_index}
use Rattle.storages.specs.declared.event.ComponentEvent.TheVariants.{Removed}
use Rattle.storages.specs.Channel.{Channel, emitted, emitted_removals}
use Rattle.storages.specs.Meaning.{HasRoom}
use Rattle.storages.specs.Slot.{Slot, Becomes}
use Rattle.storages.specs.Removals.{lost, lost_of, without_one}
use Rattle.storages.proofs.Indices.{same_id}
use Rattle.storages.specs.Finds.{get-remove}

channel_by : (b : Bool) (i : ℕ) (is : List ℕ) (c : Channel) → c.emission ≡ b → emitted_removals is (emitted (Removed i) c) ≡ emitted_removals (i ∷ is) c
channel_by true i is c e = rw e refl
channel_by false i is c e = rw e refl

emitted-cons : (i : ℕ) (is : List ℕ) (c : Channel) → emitted_removals is (emitted (Removed i) c) ≡ emitted_removals (i ∷ is) c
emitted-cons i is c = channel_by c.emission i is c refl

module _ {T : Type 0} where
  key-removed_by : (b : Bool) (o : Option T) → is_some (cond b None o) ≡ (is_some o && not b)
  key-removed_by true None = refl
  key-removed_by true (Some x) = refl
  key-removed_by false None = refl
  key-removed_by false (Some x) = refl

  keys-removed : (m n : map.FinMap nat_cmp T) (i : ℕ) → n ≡ map.remove m i → (λ q. map.contains_key n q) ≡ without_one (λ q. map.contains_key m q) i
  keys-removed m n i e j q = key-at q j
    where
      key-at : (q : ℕ) → map.contains_key n q ≡ without_one (λ q. map.contains_key m q) i q
      key-at q = ap (λ (k : map.FinMap nat_cmp T). map.contains_key k q) e ∙ ap is_some (get-remove m i q) ∙ key-removed_by (nat_eq i q) (map.get m q)

  get_by : (a b : Bool) (o : Option T) → cond b None (cond a None o) ≡ cond (a || b) None o
  get_by true true o = refl
  get_by true false o = refl
  get_by false b o = refl

  -- the component of the first entity is taken out, then those of the others
  pub step-get : (e : Entity) (es : List Entity) (s t : Slot T) → Becomes s t (map.remove s.map (index_of e)) (Removed (index_of e)) → (q : ℕ) → cond (has_index es q) None (map.get t.map q) ≡ cond (has_index (e ∷ es) q) None (map.get s.map q)
  step-get e es s t b q =
      ap (λ (m : map.FinMap nat_cmp T). cond (has_index es q) None (map.get m q)) b.map ∙ ap (cond (has_index es q) None) (get-remove s.map (index_of e) q)
      ∙ get_by (nat_eq (index_of e) q) (has_index es q) (map.get s.map q)

  pub step-channel : (e : Entity) (es : List Entity) (s t : Slot T) → map.contains_key s.map (index_of e) ≡ true → Becomes s t (map.remove s.map (index_of e)) (Removed (index_of e))
      → emitted_removals (lost es (λ q. map.contains_key t.map q)) t.channel ≡ emitted_removals (lost (e ∷ es) (λ q. map.contains_key s.map q)) s.channel
  step-channel e es s t h b =
      ap (λ (has : ℕ → Bool). emitted_removals (lost es has) t.channel) (keys-removed s.map t.map (index_of e) b.map)
      ∙ ap (emitted_removals (lost es (without_one (λ q. map.contains_key s.map q) (index_of e)))) b.channel
      ∙ emitted-cons (index_of e) (lost es (without_one (λ q. map.contains_key s.map q) (index_of e))) s.channel
      ∙ ap (λ c. emitted_removals (cond c (index_of e ∷ lost es (without_one (λ q. map.contains_key s.map q) (index_of e))) (lost es (λ q. map.contains_key s.map q))) s.channel) (sym h)

  pub step-count : (e : Entity) (es : List Entity) (s t : Slot T) → map.contains_key s.map (index_of e) ≡ true → Becomes s t (map.remove s.map (index_of e)) (Removed (index_of e))
      → length (lost_of (e ∷ es) s) ≡ suc (length (lost_of es t))
  step-count e es s t h b =
      ap (λ c. length (cond c (index_of e ∷ lost es (without_one (λ q. map.contains_key s.map q) (index_of e))) (lost es (λ q. map.contains_key s.map q)))) h
      ∙ ap (λ (has : ℕ → Bool). suc (length (lost es has))) (sym (keys-removed s.map t.map (index_of e) b.map))

  none_of : (o : Option T) → is_some o ≡ false → (b : Bool) → cond b None o ≡ o
  none_of None h true = refl
  none_of (Some x) h true = cc
  none_of o h false = refl

  skip_by : (a b : Bool) (e : Entity) (q : ℕ) (m : map.FinMap nat_cmp T) → nat_eq (index_of e) q ≡ a → map.contains_key m (index_of e) ≡ false → cond b None (map.get m q) ≡ cond (a || b) None (map.get m q)
  skip_by true b e q m same h =
      let none = ap (λ i. map.contains_key m i) (sym (same_id (index_of e) q same)) ∙ h in
      none_of (map.get m q) none b ∙ sym (none_of (map.get m q) none true)
  skip_by false b e q m same h = refl

  -- the first entity has no component
  pub skip-get : (e : Entity) (es : List Entity) (s : Slot T) → map.contains_key s.map (index_of e) ≡ false → (q : ℕ) → cond (has_index es q) None (map.get s.map q) ≡ cond (has_index (e ∷ es) q) None (map.get s.map q)
  skip-get e es s h q = skip_by (nat_eq (index_of e) q) (has_index es q) e q s.map refl h

  pub skip-channel : (e : Entity) (es : List Entity) (s : Slot T) → map.contains_key s.map (index_of e) ≡ false
      → emitted_removals (lost es (λ q. map.contains_key s.map q)) s.channel ≡ emitted_removals (lost (e ∷ es) (λ q. map.contains_key s.map q)) s.channel
  skip-channel e es s h = ap (λ c. emitted_removals (cond c (index_of e ∷ lost es (without_one (λ q. map.contains_key s.map q) (index_of e))) (lost es (λ q. map.contains_key s.map q))) s.channel) (sym h)

  pub skip-count : (e : Entity) (es : List Entity) (s : Slot T) → map.contains_key s.map (index_of e) ≡ false → length (lost_of (e ∷ es) s) ≡ length (lost_of es s)
  skip-count e es s h = ap (λ c. length (cond c (index_of e ∷ lost es (without_one (λ q. map.contains_key s.map q) (index_of e))) (lost es (λ q. map.contains_key s.map q)))) h

-- room for one event and k more
one_more : (r : Option ℕ) (a k n : ℕ) → a ≡ suc k → HasRoom r (a + n) → HasRoom r (k + n + 1)
one_more r a k n e h = subst (HasRoom r) (moved k n) (subst (λ m. HasRoom r (m + n)) e h)
  where
    moved : (k n : ℕ) → suc k + n ≡ k + n + 1
    moved k n = omega arith

-- what is still to be taken out of s, where all of es₀ was to be taken out of s₀ and es is left
pub record IsOnTheWay {T : Type 0} (s s₀ : Slot T) (es es₀ : List Entity) : Type 0 where
  pub get : (q : ℕ) → cond (has_index es q) None (map.get s.map q) ≡ cond (has_index es₀ q) None (map.get s₀.map q)
  pub extent : s.extent ≡ s₀.extent
  pub channel : emitted_removals (lost es (λ q. map.contains_key s.map q)) s.channel ≡ emitted_removals (lost es₀ (λ q. map.contains_key s₀.map q)) s₀.channel
  pub needs_room : is_some s.room ≡ is_some s₀.room
  pub room : HasRoom s.room (length es)
  pub remains : (n : ℕ) → HasRoom s₀.room (length (lost_of es₀ s₀) + n) → HasRoom s.room (length (lost_of es s) + n)
  pub needs_inner : is_some s.inner_room ≡ is_some s₀.inner_room
  pub inner_remains : (n : ℕ) → HasRoom s₀.inner_room (length (lost_of es₀ s₀) + n) → HasRoom s.inner_room (length (lost_of es s) + n)
  pub none_left : lost_of es₀ s₀ ≡ [] → lost_of es s ≡ []
  pub order : lost_of es₀ s₀ ≡ [] → s.order ≡ s₀.order

no_more : (n : ℕ) → 0 ≡ suc n → ⊥
no_more n e = omega (arith, e)

none_of_none : (xs : List ℕ) → length xs ≡ 0 → xs ≡ []
none_of_none [] e = refl
none_of_none (x ∷ xs) e = absurd (no_more (length xs) (sym e))

module _ {T : Type 0} (s s₀ : Slot T) (e : Entity) (es es₀ : List Entity) (w : IsOnTheWay s s₀ (e ∷ es) es₀) where
  pub way_on : (t : Slot T) → map.contains_key s.map (index_of e) ≡ true → Becomes s t (map.remove s.map (index_of e)) (Removed (index_of e)) → IsOnTheWay t s₀ es es₀
  way_on t h b = record {
    get = λ q. step-get e es s t b q ∙ w.get q;
    extent = b.extent ∙ w.extent;
    channel = step-channel e es s t h b ∙ w.channel;
    needs_room = b.needs_room ∙ w.needs_room;
    room = b.room (length es) (rw (add-one (length es)) w.room);
    remains = λ n r. b.room (length (lost_of es t) + n) (one_more s.room _ _ n (step-count e es s t h b) (w.remains n r));
    needs_inner = b.needs_inner ∙ w.needs_inner;
    inner_remains = λ n r. b.inner_room (length (lost_of es t) + n) (one_more s.inner_room _ _ n (step-count e es s t h b) (w.inner_remains n r));
    none_left = λ q. absurd (one_is_lost q);
    order = λ q. absurd (one_is_lost q);
  }
    where
      one_is_lost : lost_of es₀ s₀ ≡ [] → ⊥
      one_is_lost q = no_more (length (lost_of es t)) (sym (ap length (w.none_left q)) ∙ step-count e es s t h b)

  pub way_past : map.contains_key s.map (index_of e) ≡ false → IsOnTheWay s s₀ es es₀
  way_past h = record {
    get = λ q. skip-get e es s h q ∙ w.get q;
    extent = w.extent;
    channel = skip-channel e es s h ∙ w.channel;
    needs_room = w.needs_room;
    room = less_room s.room w.room;
    remains = λ n r. subst (λ m. HasRoom s.room (m + n)) (skip-count e es s h) (w.remains n r);
    needs_inner = w.needs_inner;
    inner_remains = λ n r. subst (λ m. HasRoom s.inner_room (m + n)) (skip-count e es s h) (w.inner_remains n r);
    none_left = λ q. none_of_none (lost_of es s) (sym (skip-count e es s h) ∙ ap length (w.none_left q));
    order = w.order;
  }
    where
      less_room : (r : Option ℕ) → HasRoom r (suc (length es)) → HasRoom r (length es)
      less_room None h = tt
      less_room (Some n) h = omega (arith, h)

-- one step over a list
module _ {T : Type 0} (s s₀ : Slot T) (list : List Entity) (k : ℕ) (d : Entity) (id : ℕ) (lt : k < length list) (is : id ≡ index_of (get_or list k d)) (w : IsOnTheWay s s₀ (drop k list) list) where
  left_then : IsOnTheWay s s₀ (get_or list k d ∷ drop (k + 1) list) list
  left_then = subst (λ (es : List Entity). IsOnTheWay s s₀ es list) (drop_more list k d lt) w

  some_room : (r : Option ℕ) (n : ℕ) → HasRoom r (suc n) → HasRoom r 1
  some_room None n h = tt
  some_room (Some m) n h = omega (arith, h)

  pub room_left : HasRoom s.room 1
  room_left = some_room s.room _ left_then.room

  pub taken_one : (t : Slot T) → map.contains_key s.map id ≡ true → Becomes s t (map.remove s.map id) (Removed id) → IsOnTheWay t s₀ (drop (k + 1) list) list
  taken_one t h b =
      way_on s s₀ (get_or list k d) (drop (k + 1) list) list left_then t (ap (λ i. map.contains_key s.map i) (sym is) ∙ h)
      (subst (λ i. Becomes s t (map.remove s.map i) (Removed i)) is b)

  pub passed_one : map.contains_key s.map id ≡ false → IsOnTheWay s s₀ (drop (k + 1) list) list
  passed_one h = way_past s s₀ (get_or list k d) (drop (k + 1) list) list left_then (ap (λ i. map.contains_key s.map i) (sym is) ∙ h)
