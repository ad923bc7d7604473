-- On a storage with its mask.
use Rattle.std.proofs.Common.{◌≡◌, ◌+◌, ◌≢◌, ℕ, Bool, true, false, nat_eq, cond, List, [], ◌∷◌, refl, ap, sym, ◌∙◌, ◌||◌, Some, None, IsTrue, is_some, not, ◌&&◌, subst}
use Rattle.std.specs.Prelude.{Option, Result, Ok, Err, IfOk, length}
use Rattle.std.specs.Borrow.{MutBor}
use Rattle.std.proofs.lemmas.Bool.{false≢true}
use Rattle.std.specs.List.{list_any}
use Rattle.std.specs.Ordering.{nat_cmp}
use Rattle.std.specs.Cmp.{nat_cmp_total, unsigned_tied}
use Rattle.std.specs.FinMap as map
use Rattle.std.specs.FinSet as set
use Rattle.storages.specs.declared.event.ComponentEvent.{ComponentEvent}
use Rattle.storages.specs.declared.event.ComponentEvent.TheVariants.{Inserted, Modified, Removed}
use Rattle.storages.specs.Channel.{emitted, emitted_removals}
use Rattle.storages.specs.Heard.{Tells, tells_one, tells_two, tells_removals}
use Rattle.storages.specs.Meaning.{Meaning, HasRoom, Masks, Puts, Frees, Keeps, Empties, Writes, Refuses, SamePresence, extent_after}
use Rattle.storages.specs.Finds.{get-insert, get-remove}
use Rattle.storages.specs.Lending.{SlotWrites, SlotRefuses}
use Rattle.storages.specs.Slot.{Slot, map_of, with_option, slot_of, indices_of, IsSame, Becomes, Inserts, Fills, Clears, SameKeys}
use Rattle.hibits.specs.Left.{left}
use Rattle.storages.proofs.Indices.{turned, itself, same_id, other_id}

over : {X : Type 0} (b : Bool) (x y z : X) → cond b y (cond b x z) ≡ cond b y z
over true x y z = refl
over false x y z = refl

-- ---- the mask
same_any : (p r : ℕ → Bool) → ((x : ℕ) → p x ≡ r x) → (xs : List ℕ) → list_any p xs ≡ list_any r xs
same_any p r e [] = refl
same_any p r e (x ∷ xs) = rw (e x, same_any p r e xs)

in_items : (s : set.FinSet nat_cmp) (q : ℕ) → list_any (λ y. nat_eq y q) (set.items s) ≡ set.contains s q
in_items s q = same_any _ _ (λ y. turned y q ∙ sym (unsigned_tied q y)) (set.items s) ∙ sym (set.contains-items s q)

-- the keys of a map
pub in_keys : {T : Type 0} (m : map.FinMap nat_cmp T) (q : ℕ) → list_any (λ y. nat_eq y q) (map.keys m) ≡ map.contains_key m q
in_keys m q = same_any _ _ (λ y. turned y q ∙ sym (unsigned_tied q y)) (map.keys m) ∙ sym (map.contains_key-keys m q)

-- the mask after `add`
pub contains-added : (s : set.FinSet nat_cmp) (id q : ℕ) → set.contains (set.insert s id) q ≡ (nat_eq id q || set.contains s q)
contains-added s id q = set.contains-insert nat_cmp_total s id q ∙ ap (λ b. b || set.contains s q) (unsigned_tied q id ∙ turned q id)

-- the mask after `remove`
pub contains-removed : (s : set.FinSet nat_cmp) (id q : ℕ) → set.contains (set.remove s id) q ≡ (not (nat_eq id q) && set.contains s q)
contains-removed s id q = set.contains-remove nat_cmp_total s id q ∙ ap (λ b. not b && set.contains s q) (unsigned_tied q id ∙ turned q id)

-- a mask that has the index already
pub contains-there : (s : set.FinSet nat_cmp) (id : ℕ) → set.contains s id ≡ true → (q : ℕ) → set.contains s q ≡ (nat_eq id q || set.contains s q)
contains-there s id h q = elim (nat_eq id q) as (λ b. nat_eq id q ≡ b → set.contains s q ≡ (b || set.contains s q)) [
  | true ↦ λ e. ap (set.contains s) (sym (same_id id q e)) ∙ h
  | false ↦ λ e. refl
] refl

pub not_there : (s : set.FinSet nat_cmp) (id : ℕ) → set.contains (set.remove s id) id ≡ false
not_there s id = contains-removed s id id ∙ ap (λ b. not b && set.contains s id) (itself id)

others_there : (id q : ℕ) (b c : Bool) → nat_eq id q ≡ b → q ≢ id → (not b && c) ≡ c
others_there id q true c e n = absurd (n (sym (same_id id q e)))
others_there id q false c e n = refl

pub contains-others : (s : set.FinSet nat_cmp) (id q : ℕ) → q ≢ id → set.contains (set.remove s id) q ≡ set.contains s q
contains-others s id q n = contains-removed s id q ∙ others_there id q (nat_eq id q) (set.contains s q) refl n

module _ {T : Type 0} where
  pub same_map : (m n : map.FinMap nat_cmp T) → ((q : ℕ) → map.get m q ≡ map.get n q) → m ≡ n
  same_map = map.same_map nat_cmp_total map.nat_cmp-IsAntisymmetric

  by_first : (i q : ℕ) (at : ℕ → Option T) (b c : Bool) → nat_eq i q ≡ c → cond c (at i) (cond b (at q) None) ≡ cond (c || b) (at q) None
  by_first i q at b true e = ap at (same_id i q e)
  by_first i q at b false e = refl

  get-with_option : (m : map.FinMap nat_cmp T) (i q : ℕ) (o : Option T) (r : Option T) → map.get m q ≡ r → (o ≡ None → nat_eq i q ≡ true → r ≡ None)
      → map.get (with_option m i o) q ≡ cond (nat_eq i q) o r
  get-with_option m i q (Some x) r e h = get-insert m i x q ∙ ap (cond (nat_eq i q) (Some x)) e
  get-with_option m i q None r e h = e ∙ elim (nat_eq i q) as (λ b. nat_eq i q ≡ b → r ≡ cond b None r) [ true ↦ λ p. h refl p | false ↦ λ p. refl ] refl

  none_there : (i q : ℕ) (at : ℕ → Option T) (b : Bool) → at i ≡ None → nat_eq i q ≡ true → cond b (at q) None ≡ None
  none_there i q at true n e = ap at (sym (same_id i q e)) ∙ n
  none_there i q at false n e = refl

  pub get-list : (ids : List ℕ) (at : ℕ → Option T) (q : ℕ) → map.get (map_of ids at) q ≡ cond (list_any (λ y. nat_eq y q) ids) (at q) None
  get-list [] at q = map.get-empty nat_cmp q
  get-list (i ∷ is) at q =
      get-with_option (map_of is at) i q (at i) (cond (list_any (λ y. nat_eq y q) is) (at q) None) (get-list is at q) (λ n e. none_there i q at _ n e)
      ∙ by_first i q at (list_any (λ y. nat_eq y q) is) (nat_eq i q) refl

  -- the component at an index of the mask
  pub get-slot : (s : set.FinSet nat_cmp) (m : Meaning T) (q : ℕ) → map.get (slot_of s m).map q ≡ cond (set.contains s q) (m.at q) None
  get-slot s m q = get-list (set.items s) m.at q ∙ ap (λ b. cond b (m.at q) None) (in_items s q)

  some_there : (o : Option T) (b : Bool) → (b ≡ true → IsTrue (is_some o)) → is_some (cond b o None) ≡ b
  some_there (Some x) true h = refl
  some_there None true h = absurd (false≢true (h refl))
  some_there o false h = refl

  -- an index is in the mask just where the map has it
  pub contains-slot : (s : set.FinSet nat_cmp) (m : Meaning T) → Masks s m → (q : ℕ) → map.contains_key (slot_of s m).map q ≡ set.contains s q
  contains-slot s m k q = ap is_some (get-slot s m q) ∙ some_there (m.at q) (set.contains s q) (k.present q)

  pub get-present : (s : set.FinSet nat_cmp) (m : Meaning T) (q : ℕ) → set.contains s q ≡ true → map.get (slot_of s m).map q ≡ m.at q
  get-present s m q h = get-slot s m q ∙ ap (λ b. cond b (m.at q) None) h

  pub get-absent : (s : set.FinSet nat_cmp) (m : Meaning T) (q : ℕ) → set.contains s q ≡ false → map.get (slot_of s m).map q ≡ None
  get-absent s m q h = get-slot s m q ∙ ap (λ b. cond b (m.at q) None) h

  pub absent_of_none : (s : set.FinSet nat_cmp) (m : Meaning T) → Masks s m → (q : ℕ) → map.get (slot_of s m).map q ≡ None → set.contains s q ≡ false
  absent_of_none s m k q n = sym (contains-slot s m k q) ∙ ap is_some n

  pub there_of_some : (s : set.FinSet nat_cmp) (m : Meaning T) → Masks s m → (q : ℕ) → is_some (map.get (slot_of s m).map q) ≡ true → set.contains s q ≡ true
  there_of_some s m k q n = sym (contains-slot s m k q) ∙ n

  put_at : (b c : Bool) (id q : ℕ) (at at' : ℕ → Option T) (x : T) → nat_eq id q ≡ b → at' id ≡ Some x → (q ≢ id → c ≡ true → at' q ≡ at q) → cond (b || c) (at' q) None ≡ cond b (Some x) (cond c (at q) None)
  put_at true c id q at at' x e p o = ap at' (sym (same_id id q e)) ∙ p
  put_at false true id q at at' x e p o = o (other_id id q e) refl
  put_at false false id q at at' x e p o = refl

  -- where the mask gains the index, the map gains the component
  pub puts-slot : (s s' : set.FinSet nat_cmp) (m m' : Meaning T) (id : ℕ) (x : T) (e : ComponentEvent) → Masks s m → ((q : ℕ) → set.contains s' q ≡ (nat_eq id q || set.contains s q)) → Puts m m' id x e
      → Becomes (slot_of s m) (slot_of s' m') (map.insert (slot_of s m).map id x) e
  puts-slot s s' m m' id x e k h p = record {
    map = same_map _ _ (λ q.
        get-slot s' m' q ∙ ap (λ b. cond b (m'.at q) None) (h q)
        ∙ put_at (nat_eq id q) (set.contains s q) id q m.at m'.at x refl p.put (λ ne h. p.touches.others q ne (k.present q h))
        ∙ sym (get-insert (slot_of s m).map id x q ∙ ap (cond (nat_eq id q) (Some x)) (get-slot s m q)));
    extent = p.touches.extent;
    order = p.touches.order;
    channel = p.touches.channel;
    told = tells_one e m.channel m'.channel p.touches.channel;
    needs_room = p.touches.needs_room;
    room = p.touches.room;
    needs_inner = p.touches.needs_inner;
    inner_room = p.touches.inner_room;
  }

  pub inserts-slot : (s : set.FinSet nat_cmp) (m m' : Meaning T) (id : ℕ) (x : T) → Masks s m → Puts m m' id x (Inserted id)
      → Becomes (slot_of s m) (slot_of (set.insert s id) m') (map.insert (slot_of s m).map id x) (Inserted id)
  inserts-slot s m m' id x k p = puts-slot s (set.insert s id) m m' id x (Inserted id) k (contains-added s id) p

  free_at : (b c d : Bool) (id q : ℕ) (at at' : ℕ → Option T) → nat_eq id q ≡ b → (b ≡ true → c ≡ false) → (q ≢ id → c ≡ d) → (q ≢ id → d ≡ true → at' q ≡ at q) → cond c (at' q) None ≡ cond b None (cond d (at q) None)
  free_at true c d id q at at' e n s o = ap (λ b. cond b (at' q) None) (n refl)
  free_at false c true id q at at' e n s o = ap (λ b. cond b (at' q) None) (s (other_id id q e)) ∙ o (other_id id q e) refl
  free_at false c false id q at at' e n s o = ap (λ b. cond b (at' q) None) (s (other_id id q e))

  -- where the mask loses the index, the map loses its component
  pub frees-slot : (s : set.FinSet nat_cmp) (m m' : Meaning T) (id : ℕ) → Masks s m → Frees m m' id
      → Becomes (slot_of s m) (slot_of (set.remove s id) m') (map.remove (slot_of s m).map id) (Removed id)
  frees-slot s m m' id k p = record {
    map = same_map _ _ (λ q.
        get-slot (set.remove s id) m' q
        ∙ free_at (nat_eq id q) (set.contains (set.remove s id) q) (set.contains s q) id q m.at m'.at refl (λ e. ap (set.contains (set.remove s id)) (sym (same_id id q e)) ∙ not_there s id) (contains-others s id q) (λ ne h. p.touches.others q ne (k.present q h))
        ∙ sym (get-remove (slot_of s m).map id q ∙ ap (cond (nat_eq id q) None) (get-slot s m q)));
    extent = p.touches.extent;
    order = p.touches.order;
    channel = p.touches.channel;
    told = tells_one (Removed id) m.channel m'.channel p.touches.channel;
    needs_room = p.touches.needs_room;
    room = p.touches.room;
    needs_inner = p.touches.needs_inner;
    inner_room = p.touches.inner_room;
  }

  -- the indices of the mask are those of the map
  pub indices-slot : (s : set.FinSet nat_cmp) (m : Meaning T) → Masks s m → left (λ i. set.contains s i) 0 ≡ indices_of (slot_of s m)
  indices-slot s m k = sym (λ j. left (λ i. contains-slot s m k i j) 0)

  pub clears-slot : (s : set.FinSet nat_cmp) (m m' : Meaning T) → Masks s m → Empties m m' (left (λ i. set.contains s i) 0) → Clears (slot_of s m) (slot_of set.empty m')
  clears-slot s m m' k p = record {
    map = same_map _ _ (λ q. get-slot set.empty m' q ∙ ap (λ b. cond b (m'.at q) None) (set.contains-empty nat_cmp q) ∙ sym (map.get-empty nat_cmp q));
    extent = p.extent;
    channel = p.channel ∙ ap (λ ids. emitted_removals ids m.channel) (indices-slot s m k);
    told = tells_removals (indices_of (slot_of s m)) m.channel m'.channel (p.channel ∙ ap (λ ids. emitted_removals ids m.channel) (indices-slot s m k));
    needs_room = p.needs_room;
    room = λ n h. p.room n (as_many m.room n h);
    needs_inner = p.needs_inner;
    inner_room = λ n h. p.inner_room n (as_many m.inner_room n h);
  }
    where
      as_many : (r : Option ℕ) (n : ℕ) → HasRoom r (length (indices_of (slot_of s m)) + n) → HasRoom r (length (left (λ i. set.contains s i) 0) + n)
      as_many r n h = subst (λ (ids : List ℕ). HasRoom r (length ids + n)) (sym (indices-slot s m k)) h

  pub masks-cleared : (m m' : Meaning T) (ids : List ℕ) → Empties m m' ids → Masks set.empty m'
  masks-cleared m m' ids p = record {
    present = λ q h. absurd (false≢true (sym (set.contains-empty nat_cmp q) ∙ h));
    absent = λ q h. p.freed q;
  }

  pub keeps-slot : (s : set.FinSet nat_cmp) (m m' : Meaning T) → Keeps m m' → IsSame (slot_of s m) (slot_of s m')
  keeps-slot s m m' k = record {
    map = same_map _ _ (λ q. get-slot s m' q ∙ ap (λ v. cond (set.contains s q) v None) (k.at q) ∙ sym (get-slot s m q));
    extent = k.extent;
    order = k.order;
    channel = k.channel;
    needs_room = k.needs_room;
    room = k.room;
    needs_inner = k.needs_inner;
    inner_room = k.inner_room;
  }

  -- what the mask is to the storage after each call
  pub masks-added : (s : set.FinSet nat_cmp) (m m' : Meaning T) (id : ℕ) (x : T) (e : ComponentEvent) → Masks s m → Puts m m' id x e → Masks (set.insert s id) m'
  masks-added s m m' id x e k p = record {
    present = λ q h. present_at q (nat_eq id q) refl (sym (contains-added s id q) ∙ h);
    absent = λ q h. absent_at q (nat_eq id q) refl (sym (contains-added s id q) ∙ h);
  }
    where
      present_at : (q : ℕ) (b : Bool) → nat_eq id q ≡ b → (b || set.contains s q) ≡ true → IsTrue (is_some (m'.at q))
      present_at q true t h = ap is_some (ap m'.at (sym (same_id id q t)) ∙ p.put)
      present_at q false t h = ap is_some (p.touches.others q (other_id id q t) (k.present q h)) ∙ k.present q h

      absent_at : (q : ℕ) (b : Bool) → nat_eq id q ≡ b → (b || set.contains s q) ≡ false → m'.is_free q ≡ true
      absent_at q true t h = absurd (false≢true (sym h))
      absent_at q false t h = p.touches.free q (other_id id q t) (k.absent q h)

  pub masks-removed : (s : set.FinSet nat_cmp) (m m' : Meaning T) (id : ℕ) → Masks s m → Frees m m' id → Masks (set.remove s id) m'
  masks-removed s m m' id k p = record {
    present = λ q h. present_at q (nat_eq id q) refl (sym (contains-removed s id q) ∙ h);
    absent = λ q h. absent_at q (nat_eq id q) refl (sym (contains-removed s id q) ∙ h);
  }
    where
      present_at : (q : ℕ) (b : Bool) → nat_eq id q ≡ b → (not b && set.contains s q) ≡ true → IsTrue (is_some (m'.at q))
      present_at q true t h = absurd (false≢true h)
      present_at q false t h = ap is_some (p.touches.others q (other_id id q t) (k.present q h)) ∙ k.present q h

      absent_at : (q : ℕ) (b : Bool) → nat_eq id q ≡ b → (not b && set.contains s q) ≡ false → m'.is_free q ≡ true
      absent_at q true t h = ap m'.is_free (sym (same_id id q t)) ∙ p.freed
      absent_at q false t h = p.touches.free q (other_id id q t) (k.absent q h)

  -- a mask stays one where the same indices have a value
  pub masks-same : (s : set.FinSet nat_cmp) (m m' : Meaning T) → Masks s m → SamePresence m m' → Masks s m'
  masks-same s m m' k p = record { present = λ q h. p.present q (k.present q h); absent = λ q h. p.free q (k.absent q h) }

  keys-slot : (s : set.FinSet nat_cmp) (m m' : Meaning T) → Masks s m → SamePresence m m' → SameKeys (slot_of s m) (slot_of s m')
  keys-slot s m m' k p = record { key = λ q. contains-slot s m' (masks-same s m m' k p) q ∙ sym (contains-slot s m k q) }

  -- what the storage's answer says of the slot
  pub writes-slot : {B E : Type 0} (r : Result B E) (s : set.FinSet nat_cmp) (m m' : Meaning T) (id : ℕ) (x : T) → Masks s m → set.contains s id ≡ true → Writes r m m' id x → SlotWrites r (slot_of s m) (slot_of s m') id x
  writes-slot r s m m' id x k h w = record { keys = keys-slot s m m' k w.presence; becomes = λ ok. puts-slot s s m m' id x (Modified id) k (contains-there s id h) (w.puts ok) }

  pub refuses-slot : {B E : Type 0} (r : Result B E) (s : set.FinSet nat_cmp) (m m' : Meaning T) → Masks s m → Refuses r m m' → SlotRefuses r (slot_of s m) (slot_of s m')
  refuses-slot (Ok x) s m m' k w = record { keys = keys-slot s m m' k w.presence; same = tt }
  refuses-slot (Err e) s m m' k w = record { keys = keys-slot s m m' k w.presence; same = keeps-slot s m m' w.keeps }

  pub value-slot : {E : Type 0} (r : Result (MutBor T) E) (s : set.FinSet nat_cmp) (m : Meaning T) (id : ℕ) → set.contains s id ≡ true → IfOk r (λ x. m.at id ≡ Some x.now) → IfOk r (λ x. map.get (slot_of s m).map id ≡ Some x.now)
  value-slot (Ok x) s m id h v = get-present s m id h ∙ v
  value-slot (Err e) s m id h v = tt

  -- the index has the component after it was put there
  pub put_there : (m n : map.FinMap nat_cmp T) (id : ℕ) (x : T) → n ≡ map.insert m id x → map.get n id ≡ Some x
  put_there m n id x e = ap (λ (k : map.FinMap nat_cmp T). map.get k id) e ∙ get-insert m id x id ∙ ap (λ b. cond b (Some x) (map.get m id)) (itself id)

  -- the last component put at an index stands
  pub put_twice : (m : map.FinMap nat_cmp T) (id : ℕ) (x y : T) → map.insert (map.insert m id x) id y ≡ map.insert m id y
  put_twice m id x y = same_map _ _ (λ q. get-insert (map.insert m id x) id y q ∙ ap (cond (nat_eq id q) (Some y)) (get-insert m id x q) ∙ over (nat_eq id q) (Some x) (Some y) (map.get m q) ∙ sym (get-insert m id y q))

  -- an insertion in room that was made, and then a write
  pub insert_then_write : (s₁ s₂ s₃ s₄ : Slot T) (id : ℕ) (x y : T) → IsSame s₁ s₂ → Becomes s₂ s₃ (map.insert s₂.map id x) (Inserted id) → Becomes s₃ s₄ (map.insert s₃.map id y) (Modified id) → Inserts s₁ s₄ id y
  insert_then_write s₁ s₂ s₃ s₄ id x y a b c = record {
    map = c.map ∙ ap (λ (m : map.FinMap nat_cmp T). map.insert m id y) b.map ∙ put_twice s₂.map id x y ∙ ap (λ (m : map.FinMap nat_cmp T). map.insert m id y) a.map;
    extent = c.extent ∙ b.extent ∙ ap (extent_after (Inserted id)) a.extent;
    channel = c.channel ∙ ap (λ k. emitted (Modified id) k) b.channel ∙ ap (λ k. emitted (Modified id) (emitted (Inserted id) k)) a.channel;
    told = tells_two (Inserted id) (Modified id) s₁.channel s₄.channel (c.channel ∙ ap (λ k. emitted (Modified id) k) b.channel ∙ ap (λ k. emitted (Modified id) (emitted (Inserted id) k)) a.channel);
    needs_room = c.needs_room ∙ b.needs_room ∙ a.needs_room;
    room = λ n h. c.room n (b.room (n + 1) (a.room (n + 1 + 1) h));
    needs_inner = c.needs_inner ∙ b.needs_inner ∙ a.needs_inner;
    inner_room = λ n h. c.inner_room n (b.inner_room (n + 1) (a.inner_room (n + 1 + 1) h));
  }

  -- a write where the index has a component, or an insertion and a write where it has none
  pub fills_there : (s t : Slot T) (id : ℕ) (x : T) → map.contains_key s.map id ≡ true → Becomes s t (map.insert s.map id x) (Modified id) → Fills s t id x
  fills_there s t id x h b = record {
    extent = b.extent ∙ sym (ap (λ c. cond c s.extent (extent_after (Inserted id) s.extent)) h);
    order = λ some. b.order;
    channel = b.channel ∙ sym (ap (λ c. emitted (Modified id) (cond c s.channel (emitted (Inserted id) s.channel))) h);
    told = subst (λ c. Tells s.channel (cond c (Modified id ∷ []) (Inserted id ∷ Modified id ∷ [])) t.channel) (sym h) b.told;
    needs_room = b.needs_room;
    room = λ n r. b.room n (subst (λ c. HasRoom s.room (cond c (n + 1) (n + 1 + 1))) h r);
    needs_inner = b.needs_inner;
    inner_room = λ n r. b.inner_room n (subst (λ c. HasRoom s.inner_room (cond c (n + 1) (n + 1 + 1))) h r);
    map = b.map;
  }

  pub fills_new : (s t : Slot T) (id : ℕ) (x : T) → map.contains_key s.map id ≡ false → Inserts s t id x → Fills s t id x
  fills_new s t id x h b = record {
    extent = b.extent ∙ sym (ap (λ c. cond c s.extent (extent_after (Inserted id) s.extent)) h);
    order = λ some. absurd (false≢true (sym h ∙ some));
    channel = b.channel ∙ sym (ap (λ c. emitted (Modified id) (cond c s.channel (emitted (Inserted id) s.channel))) h);
    told = subst (λ c. Tells s.channel (cond c (Modified id ∷ []) (Inserted id ∷ Modified id ∷ [])) t.channel) (sym h) b.told;
    needs_room = b.needs_room;
    room = λ n r. b.room n (subst (λ c. HasRoom s.room (cond c (n + 1) (n + 1 + 1))) h r);
    needs_inner = b.needs_inner;
    inner_room = λ n r. b.inner_room n (subst (λ c. HasRoom s.inner_room (cond c (n + 1) (n + 1 + 1))) h r);
    map = b.map;
  }

  pub some_same : (o : Option T) (x y : T) → o ≡ Some x → o ≡ Some y → x ≡ y
  some_same o x y p q = cc

-- ---- a slot n, of a mask and a storage
module _ {T : Type 0} (s : set.FinSet nat_cmp) (m : Meaning T) (k : Masks s m) (n : Slot T) (view : slot_of s m ≡ n) where
  pub mask-of-some : (q : ℕ) → is_some (map.get n.map q) ≡ true → set.contains s q ≡ true
  mask-of-some q h = there_of_some s m k q (ap (λ (t : Slot T). is_some (map.get t.map q)) view ∙ h)

  pub present-of-some : (q : ℕ) → is_some (map.get n.map q) ≡ true → IsTrue (is_some (m.at q))
  present-of-some q h = k.present q (mask-of-some q h)

  pub at-of-some : (q : ℕ) → is_some (map.get n.map q) ≡ true → m.at q ≡ map.get n.map q
  at-of-some q h = sym (get-present s m q (mask-of-some q h)) ∙ ap (λ (t : Slot T). map.get t.map q) view

  pub mask-of-none : (q : ℕ) → map.get n.map q ≡ None → set.contains s q ≡ false
  mask-of-none q h = absent_of_none s m k q (ap (λ (t : Slot T). map.get t.map q) view ∙ h)

  pub free-of-none : (q : ℕ) → map.get n.map q ≡ None → m.is_free q ≡ true
  free-of-none q h = k.absent q (mask-of-none q h)

  pub key-of-mask : (q : ℕ) → set.contains s q ≡ map.contains_key n.map q
  key-of-mask q = sym (contains-slot s m k q) ∙ ap (λ (t : Slot T). map.contains_key t.map q) view

  pub get-of-mask : (q : ℕ) → set.contains s q ≡ true → m.at q ≡ map.get n.map q
  get-of-mask q h = sym (get-present s m q h) ∙ ap (λ (t : Slot T). map.get t.map q) view

  pub none-of-mask : (q : ℕ) → set.contains s q ≡ false → map.get n.map q ≡ None
  none-of-mask q h = sym (ap (λ (t : Slot T). map.get t.map q) view) ∙ get-absent s m q h

  -- what is left after each call on the storage and on its mask
  pub inserted-slot : (s' : set.FinSet nat_cmp) (m' : Meaning T) (id : ℕ) (x : T) → s' ≡ set.insert s id → Puts m m' id x (Inserted id) → Becomes n (slot_of s' m') (map.insert n.map id x) (Inserted id)
  inserted-slot s' m' id x e p =
      subst (λ (t : Slot T). Becomes t (slot_of s' m') (map.insert t.map id x) (Inserted id)) view
      (subst (λ (t : set.FinSet nat_cmp). Becomes (slot_of s m) (slot_of t m') (map.insert (slot_of s m).map id x) (Inserted id)) (sym e) (inserts-slot s m m' id x k p))

  pub inserted-masks : (s' : set.FinSet nat_cmp) (m' : Meaning T) (id : ℕ) (x : T) → s' ≡ set.insert s id → Puts m m' id x (Inserted id) → Masks s' m'
  inserted-masks s' m' id x e p = subst (λ (t : set.FinSet nat_cmp). Masks t m') (sym e) (masks-added s m m' id x (Inserted id) k p)

  pub removed-slot : (s' : set.FinSet nat_cmp) (m' : Meaning T) (id : ℕ) → s' ≡ set.remove s id → Frees m m' id → Becomes n (slot_of s' m') (map.remove n.map id) (Removed id)
  removed-slot s' m' id e p =
      subst (λ (t : Slot T). Becomes t (slot_of s' m') (map.remove t.map id) (Removed id)) view
      (subst (λ (t : set.FinSet nat_cmp). Becomes (slot_of s m) (slot_of t m') (map.remove (slot_of s m).map id) (Removed id)) (sym e) (frees-slot s m m' id k p))

  pub removed-masks : (s' : set.FinSet nat_cmp) (m' : Meaning T) (id : ℕ) → s' ≡ set.remove s id → Frees m m' id → Masks s' m'
  removed-masks s' m' id e p = subst (λ (t : set.FinSet nat_cmp). Masks t m') (sym e) (masks-removed s m m' id k p)

  pub cleared-slot : (s' : set.FinSet nat_cmp) (m' : Meaning T) → s' ≡ set.empty → Empties m m' (left (λ i. set.contains s i) 0) → Clears n (slot_of s' m')
  cleared-slot s' m' e p =
      subst (λ (t : Slot T). Clears t (slot_of s' m')) view
      (subst (λ (t : set.FinSet nat_cmp). Clears (slot_of s m) (slot_of t m')) (sym e) (clears-slot s m m' k p))

  pub cleared-masks : (s' : set.FinSet nat_cmp) (m' : Meaning T) (ids : List ℕ) → s' ≡ set.empty → Empties m m' ids → Masks s' m'
  cleared-masks s' m' ids e p = subst (λ (t : set.FinSet nat_cmp). Masks t m') (sym e) (masks-cleared m m' ids p)

  pub same-slot : (m' : Meaning T) → Keeps m m' → IsSame n (slot_of s m')
  same-slot m' p = subst (λ (t : Slot T). IsSame t (slot_of s m')) view (keeps-slot s m m' p)

  -- how many indices there are
  pub room-of-all : HasRoom n.room (length (indices_of n)) → HasRoom m.room (length (left (λ i. set.contains s i) 0))
  room-of-all h =
      subst (λ (ids : List ℕ). HasRoom m.room (length ids)) (sym (indices-slot s m k))
      (subst (λ (t : Slot T). HasRoom t.room (length (indices_of t))) (sym view) h)

-- a new storage
pub masks-new : {T : Type 0} (s : set.FinSet nat_cmp) (m : Meaning T) → s ≡ set.empty → ((q : ℕ) → m.is_free q ≡ true) → Masks s m
masks-new s m e f = record {
  present = λ q h. absurd (false≢true (sym (set.contains-empty nat_cmp q) ∙ ap (λ (t : set.FinSet nat_cmp). set.contains t q) (sym e) ∙ h));
  absent = λ q h. f q;
}

pub map-new : {T : Type 0} (s : set.FinSet nat_cmp) (m : Meaning T) → s ≡ set.empty → (slot_of s m).map ≡ map.empty
map-new s m e = same_map _ _ (λ q. get-slot s m q ∙ ap (λ (t : set.FinSet nat_cmp). cond (set.contains t q) (m.at q) None) e ∙ ap (λ b. cond b (m.at q) None) (set.contains-empty nat_cmp q) ∙ sym (map.get-empty nat_cmp q))

-- as many indices as the mask has
module _ {T : Type 0} (s : set.FinSet nat_cmp) (m : Meaning T) (k : Masks s m) (n : Slot T) (view : slot_of s m ≡ n) where
  pub count-of : (count : ℕ) → count ≡ length (left (λ i. set.contains s i) 0) → count ≡ length (indices_of n)
  count-of count e = e ∙ ap (length) (indices-slot s m k) ∙ ap (λ (t : Slot T). length (indices_of t)) view

  pub none-of-empty : s ≡ set.empty → n.map ≡ map.empty
  none-of-empty e = sym (ap (λ (t : Slot T). t.map) view) ∙ map-new s m e

  pub empty-of-none : n.map ≡ map.empty → s ≡ set.empty
  empty-of-none e = set.same_set nat_cmp_total map.nat_cmp-IsAntisymmetric s set.empty (λ q.
      key-of-mask s m k n view q ∙ ap (λ (t : map.FinMap nat_cmp T). map.contains_key t q) e ∙ ap is_some (map.get-empty nat_cmp q) ∙ sym (set.contains-empty nat_cmp q))
