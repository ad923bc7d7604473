-- What a storage is as a slot, after its calls.
use Rattle.std.proofs.Common.{◌≡◌, ℕ, Bool, true, false, cond, ◌==◌, List, [], ◌∷◌, length, refl, sym, ap, ◌∙◌, inl, inr, Option, Some, None, arith, ◌&&◌, ◌||◌}
use mathlib.Core.Path.{fun_ext}
use Rattle.std.specs.Prelude.{option_map, IsSome, IfSome, IsTrue, is_some, Result, Err, IsOk, ◌⊎◌, ◌↔◌}
use Rattle.std.specs.Ordering.{nat_cmp}
use Rattle.std.specs.Cmp.{nat_cmp_total, unsigned_tied}
use Rattle.std.specs.FinMap as map
use Rattle.std.proofs.lemmas.Bool.{false≢true, eq-eqb, ne_eqb, cases_eq}
use Rattle.std.proofs.lemmas.Bool.Decides.{nat_tests, Decides-int_eq}
use Rattle.entities.specs.declared.entity.Entity.{Entity}
use Rattle.entities.specs.Census.{Census, population}
use Rattle.entities.specs.Population.{Population, IsAlive, lives, index_of}
use Rattle.storages.specs.Channel.{Channel, emitted, emitted_removals, is_heard}
use Rattle.storages.specs.Meaning.{Meaning, HasRoom, IsNew}
use Rattle.storages.specs.Removals.{Loses}
use Rattle.storages.specs.Tracking.{Turns, after_read, without_reader}
use Rattle.storages.specs.Unread.{unread_of, emptied, dropped}
use Rattle.storages.specs.declared.event.ComponentEvent.{ComponentEvent}
use Rattle.specs.specs.Slots.Readers.{with_channel}
use Rattle.storages.specs.declared.event.ComponentEvent.TheVariants.{Inserted, Modified, Removed}
use Rattle.storages.specs.Slot as masked
use Rattle.storages.specs.declared.masked.NotLent.{NotLent}
use Rattle.storages.specs.declared.masked.NotLent.TheVariants.{Absent, OutOfMemory as NoMemory}
use Rattle.storages.specs.Life.{is_alive}
use Rattle.storages.specs.Found.{found_in}
use Rattle.specs.specs.Slots.Maps.{Map, put, without_one, no_value}
use Rattle.specs.specs.Slots.Column.{Column, IsFresh, wants_memory, without_value, without_values, column_is}
use Rattle.std.specs.List.{Contains}
use Rattle.std.proofs.lemmas.List.Elements.{All-contains_itself}
use Rattle.hibits.specs.Left.{left, contains-left}
use Rattle.specs.specs.Typed.Field.{values_of, column_of, field_column, FieldInserts, FieldGets, FieldRemoves, FieldClears, FieldRechannels, Holds, field_room}
use Rattle.std.proofs.lemmas.Option.{same_Some}
use Rattle.specs.specs.Slots.Table.{RemovalWantsMemory}

turned : (a b : ℕ) → (a == b) ≡ (b == a)
turned a b = grind (arith, nat_tests)

module _ {T : Type 0} where
  pub values-insert : (m m' : map.FinMap nat_cmp T) (i : ℕ) (x : T) → m' ≡ map.insert m i x → (λ (j : ℕ). map.get m' j) ≡ put (λ j. (map.get m j)) i x
  values-insert m m' i x e = fun_ext (λ j.
      ap (λ (n : map.FinMap nat_cmp T). (map.get n j)) e
      ∙ (map.get-insert nat_cmp_total m i x j ∙ ap (λ b. cond b (Some x) (map.get m j)) (unsigned_tied j i ∙ turned j i)))

  pub values-remove : (m m' : map.FinMap nat_cmp T) (i : ℕ) → m' ≡ map.remove m i → (λ (j : ℕ). map.get m' j) ≡ without_one (λ j. (map.get m j)) i
  values-remove m m' i e = fun_ext (λ j.
      ap (λ (n : map.FinMap nat_cmp T). (map.get n j)) e
      ∙ (map.get-remove nat_cmp_total m i j ∙ ap (λ b. cond b None (map.get m j)) (unsigned_tied j i ∙ turned j i)))

  pub values-empty : (m : map.FinMap nat_cmp T) → m ≡ map.empty → (λ (j : ℕ). (map.get m j)) ≡ no_value
  values-empty m e = fun_ext (λ j. ap (λ (n : map.FinMap nat_cmp T). (map.get n j)) e ∙ (map.get-empty nat_cmp j))

-- whether an entity is alive, as an answer and as a fact
split : (a b : Bool) → (a && b) ≡ true → (a ≡ true) × (b ≡ true)
split true b e = (refl, e)
split false b e = absurd (false≢true e)

pub alive_fact : (p : Population) (e : Entity) → is_alive p e ≡ true → IsAlive p e
alive_fact p e h = let parts = split (lives p (index_of e)) _ h in (parts.0, (Decides-int_eq _ _).0 parts.1)

pub alive_true : (p : Population) (e : Entity) → IsAlive p e → is_alive p e ≡ true
alive_true p e h = rw h.0 ((Decides-int_eq _ _).1 h.1)

pub dead_false : (p : Population) (e : Entity) → (IsAlive p e → ⊥) → is_alive p e ≡ false
dead_false p e h = elim (is_alive p e) as (λ b. is_alive p e ≡ b → b ≡ false) [
  | true ↦ λ is. absurd (h (alive_fact p e is))
  | false ↦ λ is. refl
] refl

empty : (xs : List ℕ) → ((i : ℕ) → Contains xs i → ⊥) → length xs ≡ 0
empty [] none = refl
empty (x ∷ xs) none = absurd (none x (All-contains_itself (x ∷ xs) 0 x (omega arith)))

none_left : (p : ℕ → Bool) → ((i : ℕ) → p i ≡ true → ⊥) → length (left p 0) ≡ 0
none_left p none = empty (left p 0) (λ i c. none i (contains-left p 0 i c).2)

pub no_room : (r : Option ℕ) (n : ℕ) → n ≡ 0 → HasRoom r n
no_room None n e = tt
no_room (Some k) n e = omega (arith, e)

module _ {E : Type 0} where
  emptied_unknown : (n : ℕ) (rs : List (ℕ × List E)) → unread_of n rs ≡ None → emptied n rs ≡ rs
  emptied_unknown n [] e = refl
  emptied_unknown n (r ∷ rs) e = elim (r.0 == n) as (λ b. cond b (Some r.1) (unread_of n rs) ≡ None → cond b ((r.0, []) ∷ rs) (r ∷ emptied n rs) ≡ r ∷ rs) [
    | true ↦ λ h. absurd (false≢true (sym (ap is_some h)))
    | false ↦ λ h. ap (λ (xs : List (ℕ × List E)). r ∷ xs) (emptied_unknown n rs h)
  ] e

  dropped_unknown : (n : ℕ) (rs : List (ℕ × List E)) → unread_of n rs ≡ None → dropped n rs ≡ rs
  dropped_unknown n [] e = refl
  dropped_unknown n (r ∷ rs) e = elim (r.0 == n) as (λ b. cond b (Some r.1) (unread_of n rs) ≡ None → cond b (dropped n rs) (r ∷ dropped n rs) ≡ r ∷ rs) [
    | true ↦ λ h. absurd (false≢true (sym (ap is_some h)))
    | false ↦ λ h. ap (λ (xs : List (ℕ × List E)). r ∷ xs) (dropped_unknown n rs h)
  ] e

module _ {V : Type 0} where
  -- nothing is there to be removed
  removed_none : (m : Map V) (i : ℕ) → m i ≡ None → without_one m i ≡ m
  removed_none m i e = fun_ext (λ j. elim (cases_eq i j) [
    | inl same ↦ rw (eq-eqb i j same) (sym (ap m (sym same) ∙ e))
    | inr other ↦ rw (ne_eqb i j other) refl
  ])

  pub taken_none : (c : Column V) (i : ℕ) → c.values i ≡ None → without_value c i ≡ c
  taken_none c i e = column_is (removed_none c.values i e) (ap (λ (o : Option V). cond (is_some o) (emitted (Removed i) c.channel) c.channel) e) refl

module _ {T : Type 0} where
  pub found_alive : (c : Census) (s : masked.Slot T) (e : Entity) → IsAlive (population c) e → found_in c s e ≡ values_of s (index_of e)
  found_alive c s e a = rw (alive_true (population c) e a) refl

  pub found_dead : (c : Census) (s : masked.Slot T) (e : Entity) → (IsAlive (population c) e → ⊥) → found_in c s e ≡ None
  found_dead c s e d = rw (dead_false (population c) e d) refl

  pub inserted : (c : Census) (s s' : masked.Slot T) (e : Entity) (x : T) (before : Option T) → is_alive (population c) e ≡ true → before ≡ found_in c s e → s'.map ≡ map.insert s.map (index_of e) x
      → s'.channel ≡ emitted (cond (is_some (found_in c s e)) (Modified (index_of e)) (Inserted (index_of e))) s.channel → is_some s'.inner_room ≡ is_some s.inner_room → FieldInserts (population c) (Some (column_of s)) e x before (Some (column_of s'))
  inserted c s s' e x before alive told now events inner =
      let a = alive_fact (population c) e alive in
      record {
        column = column_of s;
        registered = refl;
        alive = a;
        told = told ∙ found_alive c s e a;
        now = ap Some (column_is (values-insert s.map s'.map (index_of e) x now) (events ∙ ap (λ o. emitted (cond (is_some o) (Modified (index_of e)) (Inserted (index_of e))) s.channel) (found_alive c s e a)) inner);
      }

  pub got : (c : Census) (s : masked.Slot T) (e : Entity) (found : Option T) → found ≡ found_in c s e → FieldGets (population c) (Some (column_of s)) e found
  got c s e found told = record {
    column = column_of s;
    registered = refl;
    alive = λ a. told ∙ found_alive c s e a;
    dead = λ d. told ∙ found_dead c s e d;
  }

  -- an entity that is alive and has a value is found
  pub held : (c : Census) (s : masked.Slot T) (e : Entity) → Holds (population c) (Some (column_of s)) e → IsSome (found_in c s e)
  held c s e h = ap is_some (found_alive c s e h.alive ∙ ap (λ (k : Column T). k.values (index_of e)) (same_Some _ _ h.registered)) ∙ h.present

  none_or_some : (o : Option T) → (o ≡ None) ⊎ IsSome o
  none_or_some None = inl refl
  none_or_some (Some x) = inr refl

  pub removed : (c : Census) (s s' : masked.Slot T) (e : Entity) (found : Option T) → found ≡ found_in c s e → (IsSome (found_in c s e) → s'.map ≡ map.remove s.map (index_of e))
      → (IsSome (found_in c s e) → s'.channel ≡ emitted (Removed (index_of e)) s.channel) → (IsSome (found_in c s e) → is_some s'.inner_room ≡ is_some s.inner_room) → (found_in c s e ≡ None → s' ≡ s)
      → FieldRemoves (population c) (Some (column_of s)) e found (Some (column_of s'))
  removed c s s' e found told now events inner absent = record {
    column = column_of s;
    registered = refl;
    alive = λ a. (
      told ∙ found_alive c s e a,
      elim (none_or_some (found_in c s e)) [
        | inl none ↦ ap (λ (t : masked.Slot T). Some (column_of t)) (absent none) ∙ ap Some (sym (taken_none (column_of s) (index_of e) (sym (found_alive c s e a) ∙ none)))
        | inr some ↦ ap Some (column_is (values-remove s.map s'.map (index_of e) (now some)) (events some ∙ sym (ap (λ (b : Bool). cond b (emitted (Removed (index_of e)) s.channel) s.channel) (ap is_some (sym (found_alive c s e a)) ∙ some))) (inner some))
      ],
    );
    dead = λ d. (told ∙ found_dead c s e d, ap (λ (t : masked.Slot T). Some (column_of t)) (absent (found_dead c s e d)));
  }

  pub cleared : (s s' : masked.Slot T) → s'.map ≡ map.empty → s'.channel ≡ emitted_removals (masked.indices_of s) s.channel → is_some s'.inner_room ≡ is_some s.inner_room → FieldClears (Some (column_of s)) (Some (column_of s'))
  cleared s s' now events inner = record { column = column_of s; registered = refl; cleared = ap Some (column_is (values-empty s'.map now) events inner) }

  pub lost_all : (s s' : masked.Slot T) (es : List Entity) → Loses s s' es → column_of s' ≡ without_values es (column_of s)
  lost_all s s' es l = column_is (fun_ext l.get) l.channel l.needs_inner

  pub same : (s s' : masked.Slot T) → masked.IsSame s s' → column_of s' ≡ column_of s
  same s s' i = column_is (fun_ext (λ (q : ℕ). ap (λ (m : map.FinMap nat_cmp T). map.get m q) i.map)) i.channel i.needs_inner

  pub turned_column : (s s' : masked.Slot T) (c : Channel) → Turns s s' c → column_of s' ≡ with_channel (column_of s) c
  turned_column s s' c t = column_is (fun_ext (λ (q : ℕ). ap (λ (m : map.FinMap nat_cmp T). map.get m q) t.map)) t.channel (ap is_some t.inner_room)

  -- a reader that is not known has nothing to read, and does not end
  pub unread_column : (s s' : masked.Slot T) (n : ℕ) → Turns s s' (after_read n s.channel) → unread_of n s.channel.readers ≡ None → column_of s' ≡ column_of s
  unread_column s s' n t none = turned_column s s' _ t ∙ ap (λ (rs : List (ℕ × List ComponentEvent)). with_channel (column_of s) (record { registered = s.channel.registered; readers = rs; emission = s.channel.emission; tracked = s.channel.tracked })) (emptied_unknown n s.channel.readers none)

  pub undropped_column : (s s' : masked.Slot T) (n : ℕ) → Turns s s' (without_reader n s.channel) → unread_of n s.channel.readers ≡ None → column_of s' ≡ column_of s
  undropped_column s s' n t none = turned_column s s' _ t ∙ ap (λ (rs : List (ℕ × List ComponentEvent)). with_channel (column_of s) (record { registered = s.channel.registered; readers = rs; emission = s.channel.emission; tracked = s.channel.tracked })) (dropped_unknown n s.channel.readers none)

  -- the channel alone turned
  pub rechanneled : (s s' : masked.Slot T) (says : Channel → Type 0) (change : Channel → Channel) → s.channel.tracked ≡ true → says s.channel → Turns s s' (change s.channel) → FieldRechannels (Some (column_of s)) says change (Some (column_of s'))
  rechanneled s s' says change tracked said t = record { column = column_of s; registered = refl; tracked = tracked; said = said; now = ap Some (turned_column s s' _ t) }

  -- a call that is refused for want of room is heard of
  pub wants : (s : masked.Slot T) (b : Bool) (n : ℕ) → b ≡ is_some s.room → b ≡ (is_some s.inner_room || is_heard s.channel) → (HasRoom s.room n → ⊥) → wants_memory (column_of s) ≡ true
  wants s b n told wanted none = sym wanted ∙ told ∙ some s.room none
    where
      some : (r : Option ℕ) → (HasRoom r n → ⊥) → is_some r ≡ true
      some None none = absurd (none tt)
      some (Some k) none = refl

  -- and nothing needs room where nobody hears
  pub has_room : (s : masked.Slot T) (b : Bool) (n : ℕ) → b ≡ is_some s.room → b ≡ (is_some s.inner_room || is_heard s.channel) → wants_memory (column_of s) ≡ false → HasRoom s.room n
  has_room s b n told wanted unheard = by s.room (sym told ∙ wanted ∙ unheard)
    where
      by : (r : Option ℕ) → is_some r ≡ false → HasRoom r n
      by None e = tt
      by (Some k) e = absurd (false≢true (sym e))

  -- without values there is nothing to be told
  pub none_told : (s : masked.Slot T) → values_of s ≡ no_value → length (masked.indices_of s) ≡ 0
  none_told s e = none_left _ (λ i h. absurd (false≢true (ap (λ (m : Map T). is_some (m i)) (sym e) ∙ h)))

  pub first_fresh : (s : masked.Slot T) (m : Meaning T) → s.map ≡ map.empty → s.channel ≡ m.channel → s.inner_room ≡ m.inner_room → IsNew m → IsFresh (column_of s)
  first_fresh s m empty channel inner new = record {
    values = values-empty s.map empty;
    registered = ap (λ (c : Channel). c.registered) channel ∙ new.registered;
    readers = ap (λ (c : Channel). c.readers) channel ∙ new.readers;
    emission = ap (λ (c : Channel). c.emission) channel ∙ new.emission ∙ sym (ap (λ (c : Channel). c.tracked) channel);
    inner = ap is_some (inner ∙ new.inner_room);
  }

-- what is read at an index of a field is what an entity that is alive finds there
pub found_at : {T : Type 0} (p : Population) (e : Entity) → IsAlive p e → (o : Option (masked.Slot T)) (x : T) → option_map (λ (w : masked.Slot T). map.get w.map (index_of e)) o ≡ Some (Some x) → FieldGets p (field_column o) e (Some x)
found_at p e alive None x is = absurd (false≢true (ap is_some is))
found_at p e alive (Some s) x is = record { column = column_of s; registered = refl; alive = λ _. sym (same_Some _ _ is); dead = λ d. absurd (d alive) }

-- and an entity that is alive finds nothing where nothing is there
pub lacks_at : {T : Type 0} (p : Population) (e : Entity) → IsAlive p e → (o : Option (masked.Slot T)) → (option_map (λ (w : masked.Slot T). map.get w.map (index_of e)) o ≡ Some None) ↔ FieldGets p (field_column o) e None
lacks_at p e alive None = (λ is. absurd (false≢true (ap is_some is)), λ f. absurd (false≢true (ap is_some f.registered)))
lacks_at p e alive (Some s) = (
  λ is. record { column = column_of s; registered = refl; alive = λ _. sym (same_Some _ _ is); dead = λ d. absurd (d alive) },
  λ f. ap Some (ap (λ (k : Column _). k.values (index_of e)) (same_Some _ _ f.registered) ∙ sym (f.alive alive)),
)

-- as does one that is not alive
pub lacks_dead : {T : Type 0} (p : Population) (e : Entity) → (IsAlive p e → ⊥) → (o : Option (masked.Slot T)) → IsSome o → FieldGets p (field_column o) e None
lacks_dead p e dead None there = absurd (false≢true there)
lacks_dead p e dead (Some s) there = record { column = column_of s; registered = refl; alive = λ a. absurd (dead a); dead = λ _. refl }

-- a loan that is refused for memory is of a component that is there, where somebody may hear of the write
loan_there : {T B : Type 0} (o : Option T) (r : Result B NotLent) → (o ≡ None → r ≡ Err Absent) → r ≡ Err NoMemory → IsSome o
loan_there (Some x) r f e = refl
loan_there None r f e = let absent = f refl in absurd (cc)

loan_needs : {B : Type 0} (room : Option ℕ) (r : Result B NotLent) → (HasRoom room 1 → IsOk r) → r ≡ Err NoMemory → is_some room ≡ true
loan_needs (Some n) r f e = refl
loan_needs None r f e = let ok = f tt in absurd (false≢true (rw e at ok))

pub loan_refused : {T B : Type 0} (s : masked.Slot T) (i : ℕ) (r : Result B NotLent) (heard : Bool) → ((r ≡ Err Absent) ↔ (map.get s.map i ≡ None)) → (IsSome (map.get s.map i) → HasRoom s.room 1 → IsOk r)
    → heard ≡ is_some s.room → heard ≡ (is_some s.inner_room || is_heard s.channel) → r ≡ Err NoMemory → IsSome (map.get s.map i) × IsTrue (wants_memory (column_of s))
loan_refused s i r heard absent succeeds told wanted e =
    let there = loan_there (map.get s.map i) r absent.1 e in
    (there, sym wanted ∙ told ∙ loan_needs s.room r (succeeds there) e)

pub loan_wants : {T : Type 0} (p : Population) (e : Entity) → IsAlive p e → (part : Option (masked.Slot T)) → IsSome part → IfSome part (λ w. IsSome (map.get w.map (index_of e)) × IsTrue (wants_memory (column_of w)))
    → RemovalWantsMemory p (field_column part) e
loan_wants p e alive (Some w) there h = record { column = column_of w; registered = refl; alive = alive; present = h.0; wanted = h.1 }
loan_wants p e alive None there h = absurd (false≢true there)

-- where such an entity's event has room, so has the write
pub loan_ready : {T : Type 0} (p : Population) (e : Entity) (part : Option (masked.Slot T)) → Holds p (field_column part) e → HasRoom (field_room part) 1 → IfSome part (λ w. IsSome (map.get w.map (index_of e)) × HasRoom w.room 1)
loan_ready p e (Some w) h room = (ap is_some (ap (λ (k : Column _). k.values (index_of e)) (same_Some _ _ h.registered)) ∙ h.present, room)
loan_ready p e None h room = tt
