-- What a table shows of a change of one of its parts.
use Rattle.std.proofs.Common.{◌≡◌, ◌≢◌, ℕ, ◌==◌, Bool, true, false, cond, refl, sym, ap, ◌∙◌, inl, inr, subst, Option, Some, None}
use mathlib.Core.Path.{fun_ext}
use Rattle.std.specs.Prelude.{List, IsSome, is_some, ◌⊎◌, MatchOption, Result, Ok, Err, OnOk, OnErr, IfOk, IfErr}
use Rattle.std.specs.Option.{option_map}
use Rattle.entities.specs.declared.entity.Entity.{Entity}
use Rattle.entities.specs.Population.{Population, index_of}
use Rattle.std.specs.Ordering.{nat_cmp}
use Rattle.std.specs.FinMap as map
use Rattle.specs.specs.Slots.Clones.{IsCloned}
use Rattle.specs.specs.Slots.Registering.{RegistersAs}
use Rattle.specs.specs.Slots.Maps.{Map, has_value, no_value}
use Rattle.specs.specs.Slots.Column.{Column, IsFresh, WantsNone, with_value, without_value, without_values, emptied, column_is}
use Rattle.hibits.specs.Left.{left}
use Rattle.storages.specs.Channel.{Channel, emitted, emitted_removals}
use Rattle.storages.specs.Removals.{lost}
use Rattle.storages.specs.declared.event.ComponentEvent.TheVariants.{Inserted, Modified, Removed}
use Rattle.specs.specs.Slots.Table.{Table, Becomes, Begins, Registers, Inserts, Gets, GetsClone, Removes, Clears, ClearIsRefused}
use Rattle.specs.specs.declared.command.Refusal.{Refusal}
use Rattle.specs.specs.declared.command.Refusal.TheVariants.{WrongGeneration as Wrong, Unregistered, IndexLimit, OutOfMemory, Untracked, UnknownReader}
use Rattle.specs.specs.Slots.Readers.{Rechannels, HasChannel, ChannelIsRefused}
use Rattle.specs.specs.Slots.ChannelCalls.{CallIsRefused}
use Rattle.specs.specs.declared.command.channel_call.ChannelCall.{ChannelCall}
use Rattle.specs.specs.declared.command.channel_call.ChannelCall.TheVariants.{Register, Read, End, Emit}
use Rattle.entities.specs.Deaths.{has_index}
use Rattle.std.proofs.lemmas.Bool.{false≢true}
use Rattle.specs.specs.Typed.Field.{FieldInserts, FieldRemoves, FieldClears}
use Rattle.specs.specs.Typed.Shows.{each_as, column_as, Shows}
use Rattle.specs.specs.Slots.Marks.{GivesMarker, MarkerIsRefused, LacksMarker}
use Rattle.saveload.specs.declared.mark_error.MarkError.{MarkError}
use Rattle.saveload.specs.declared.mark_error.MarkError.TheVariants as failure

if_as : {V W : Type 0} (f : V → W) (b : Bool) (x y : Option V) → option_map f (cond b x y) ≡ cond b (option_map f x) (option_map f y)
if_as f true x y = refl
if_as f false x y = refl

has_as : {V W : Type 0} (f : V → W) (o : Option V) → is_some (option_map f o) ≡ is_some o
has_as f None = refl
has_as f (Some x) = refl

has_all : {V W : Type 0} (f : V → W) (m : Map V) → ◌≡◌ {A = ℕ → Bool} (λ i. has_value (each_as f m) i) (λ i. has_value m i)
has_all f m = fun_ext (λ i. has_as f (m i))

none_as : {V W : Type 0} (f : V → W) (o : Option V) → option_map f o ≡ None → o ≡ None
none_as f None e = refl
none_as f (Some x) e = absurd (false≢true (sym (ap is_some e)))

-- the values of entities are taken out of both
pub without_all_as : {V W : Type 0} (f : V → W) (es : List Entity) (o : Option (Column V))
    → option_map (column_as f) (option_map (without_values es) o) ≡ option_map (without_values es) (option_map (column_as f) o)
without_all_as f es None = refl
without_all_as f es (Some c) = ap Some (column_is (fun_ext (λ j. if_as f (has_index es j) None (c.values j))) (ap (λ has. emitted_removals (lost es has) c.channel) (sym (has_all f c.values))) refl)

pub wants_none_as : {V W : Type 0} (f : V → W) (o : Option (Column V)) → WantsNone (option_map (column_as f) o) → WantsNone o
wants_none_as f None h = h
wants_none_as f (Some c) h = h

fresh_as : {V W : Type 0} (value : V → W) (c : Column V) → IsFresh c → IsFresh (column_as value c)
fresh_as value c f = record { values = ap (each_as value) f.values ∙ fun_ext (λ i. refl); registered = f.registered; readers = f.readers; emission = f.emission; inner = f.inner }

clone_shown : {V W : Type 0} (value : V → W) (R : V → V → Type 0) (Q : W → W → Type 0) → ((x y : V) → R x y → Q (value x) (value y)) → (o found : Option V)
    → IsCloned R o found → IsCloned Q (option_map value o) (option_map value found)
clone_shown value R Q law None None c = tt
clone_shown value R Q law None (Some y) c = absurd c
clone_shown value R Q law (Some x) None c = absurd c
clone_shown value R Q law (Some x) (Some y) c = law x y c

module _ {K L V W : Type 0} {slot : K → L} {value : V → W} {t t' : Table K V} {u u' : Table L W} (s : Shows slot value t t' u u') where
  shown_becomes : (k : K) (m : Column V) → Becomes t k m t' → Becomes u (slot k) (column_as value m) u'
  shown_becomes k m b = record {
    here = s.after k ∙ ap (option_map (column_as value)) b.here;
    others = λ l d. elim (s.only l) [
      | inl named ↦ ap u' named.1 ∙ s.after named.0 ∙ ap (option_map (column_as value)) (b.others named.0 (λ p. d (named.1 ∙ ap slot p))) ∙ sym (s.before named.0) ∙ sym (ap u named.1)
      | inr same ↦ same
    ];
  }

  pub shown_same : t' ≡ t → u' ≡ u
  shown_same e = fun_ext (λ l. elim (s.only l) [
    | inl named ↦ ap u' named.1 ∙ s.after named.0 ∙ ap (λ (x : Table K V). option_map (column_as value) (x named.0)) e ∙ sym (s.before named.0) ∙ sym (ap u named.1)
    | inr same ↦ same
  ])

  put_as : (c : Column V) (i : ℕ) (x : V) → column_as value (with_value c i x) ≡ with_value (column_as value c) i (value x)
  put_as c i x = column_is (fun_ext (λ j. if_as value (i == j) (Some x) (c.values j))) (ap (λ b. emitted (cond b (Modified i) (Inserted i)) c.channel) (sym (has_as value (c.values i)))) refl

  without_as : (c : Column V) (i : ℕ) → column_as value (without_value c i) ≡ without_value (column_as value c) i
  without_as c i = column_is (fun_ext (λ j. if_as value (i == j) None (c.values j))) (ap (λ b. cond b (emitted (Removed i) c.channel) c.channel) (sym (has_as value (c.values i)))) refl

  emptied_as : (c : Column V) → column_as value (emptied c) ≡ emptied (column_as value c)
  emptied_as c = column_is (fun_ext (λ j. refl)) (ap (λ has. emitted_removals (left has 0) c.channel) (sym (has_all value c.values))) refl

  becomes_this : (l : L) (m n : Column W) → m ≡ n → Becomes u l m u' → Becomes u l n u'
  becomes_this l m n e b = subst (λ x. Becomes u l x u') e b

  pub shown_registers : (k : K) → Registers t k t' → Registers u (slot k) u'
  shown_registers k r = rw (s.before k) (by_option (t k) r)
    where
      by_option : (o : Option (Column V)) → MatchOption o (Begins t k t') (λ _. t' ≡ t) → MatchOption (option_map (column_as value) o) (Begins u (slot k) u') (λ _. u' ≡ u)
      by_option None b = record { column = column_as value b.column; fresh = fresh_as value b.column b.fresh; becomes = shown_becomes k b.column b.becomes }
      by_option (Some m) e = shown_same e

  pub shown_inserts : (place : V → K) (place' : W → L) (p : Population) (e : Entity) (x : V) (before : Option V) → place' (value x) ≡ slot (place x)
      → Inserts place p t e x before t' → Inserts place' p u e (value x) (option_map value before) u'
  shown_inserts place place' p e x before at i = record {
    column = column_as value i.column;
    registered = ap u at ∙ s.before (place x) ∙ ap (option_map (column_as value)) i.registered;
    alive = i.alive;
    told = ap (option_map value) i.told;
    put = rw at (becomes_this (slot (place x)) _ _ (put_as i.column (index_of e) x) (shown_becomes (place x) _ i.put));
  }

  some_as : (k : K) → IsSome (t k) → IsSome (u (slot k))
  some_as k h = ap is_some (s.before k) ∙ has_as (column_as value) (t k) ∙ h

  registered_as : (k : K) (c : Column V) → t k ≡ Some c → u (slot k) ≡ Some (column_as value c)
  registered_as k c h = s.before k ∙ ap (option_map (column_as value)) h

  lacks_as : (p : Population) (k : K) (e : Entity) → LacksMarker p (t k) e → LacksMarker p (u (slot k)) e
  lacks_as p k e l = record { column = column_as value l.column; registered = registered_as k l.column l.registered; alive = l.alive; absent = ap (option_map value) l.absent }

  pub shown_gives : (Comes : V → Type 0) (Shown : W → Type 0) → ((v : V) → Comes v → Shown (value v))
      → (p : Population) (k : K) (e : Entity) (given : Option Bool) → GivesMarker Comes p t k e given t' → GivesMarker Shown p u (slot k) e given u'
  shown_gives Comes Shown c p k e None g = (some_as k g.0, g.1, shown_same g.2)
  shown_gives Comes Shown c p k e (Some false) g =
      let has = g.0 in (
        record {
          column = column_as value has.column;
          registered = registered_as k has.column has.registered;
          alive = has.alive;
          present =
              has_as value (has.column.values (index_of e)) ∙ has.present;
        },
        shown_same g.1,
      )
  shown_gives Comes Shown c p k e (Some true) g = record {
    column = column_as value g.column;
    registered = registered_as k g.column g.registered;
    alive = g.alive;
    absent = ap (option_map value) g.absent;
    value = value g.value;
    comes = c g.value g.comes;
    put = becomes_this (slot k) _ _ (put_as g.column (index_of e) g.value) (shown_becomes k _ g.put);
  }

  pub shown_marker_refused : (b : Bool) (left : Option ℕ) (p : Population) (k : K) (e : Entity) (r : MarkError) → MarkerIsRefused b left p t k e r → MarkerIsRefused b left p u (slot k) e r
  shown_marker_refused b left p k e failure.Unregistered h = s.before k ∙ ap (option_map (column_as value)) h
  shown_marker_refused b left p k e failure.NoMarker h = (some_as k h.0, h.1)
  shown_marker_refused b left p k e failure.IdsExhausted h = (lacks_as p k e h.0, h.1, h.2)
  shown_marker_refused b left p k e failure.IdTaken h = (lacks_as p k e h.0, h.1, h.2)
  shown_marker_refused b left p k e failure.OutOfMemory h = (lacks_as p k e h.0, h.1, h.2)

  pub shown_removes : (p : Population) (k : K) (e : Entity) (found : Option V) → Removes p t k e found t' → Removes p u (slot k) e (option_map value found) u'
  shown_removes p k e found r = record {
    column = column_as value r.column;
    registered = s.before k ∙ ap (option_map (column_as value)) r.registered;
    alive = λ a. (ap (option_map value) (r.alive a).0, becomes_this (slot k) _ _ (without_as r.column (index_of e)) (shown_becomes k _ (r.alive a).1));
    dead = λ d. (ap (option_map value) (r.dead d).0, shown_same (r.dead d).1);
  }

  pub shown_clears : (k : K) → Clears t k t' → Clears u (slot k) u'
  shown_clears k c = record {
    column = column_as value c.column;
    registered = s.before k ∙ ap (option_map (column_as value)) c.registered;
    cleared = becomes_this (slot k) _ _ (emptied_as c.column) (shown_becomes k _ c.cleared);
  }

  pub shown_clear_refused : (k : K) (r : Refusal) → ClearIsRefused t k r → ClearIsRefused u (slot k) r
  shown_clear_refused k (Wrong w) h = h
  shown_clear_refused k Unregistered h = s.before k ∙ ap (option_map (column_as value)) h
  shown_clear_refused k IndexLimit h = h
  shown_clear_refused k Untracked h = h
  shown_clear_refused k UnknownReader h = h
  shown_clear_refused k OutOfMemory h = record {
    column = column_as value h.column;
    registered = s.before k ∙ ap (option_map (column_as value)) h.registered;
    present = λ none. h.present (fun_ext (λ i. none_as value (h.column.values i) (ap (λ (m : Map W). m i) none)));
    wanted = h.wanted;
  }

  pub shown_rechannels : (k : K) (says : Channel → Type 0) (change : Channel → Channel) → Rechannels t k says change t' → Rechannels u (slot k) says change u'
  shown_rechannels k says change r = record {
    column = column_as value r.column;
    registered = s.before k ∙ ap (option_map (column_as value)) r.registered;
    tracked = r.tracked;
    said = r.said;
    becomes = shown_becomes k _ r.becomes;
  }

  has_channel : (k : K) (says : Channel → Type 0) → HasChannel (t k) says → HasChannel (u (slot k)) says
  has_channel k says h = record { column = column_as value h.column; registered = s.before k ∙ ap (option_map (column_as value)) h.registered; said = h.said }

  pub shown_channel_refused : (memory unknown : Channel → Type 0) (k : K) (r : Refusal) → ChannelIsRefused memory unknown (t k) r → ChannelIsRefused memory unknown (u (slot k)) r
  shown_channel_refused memory unknown k (Wrong w) h = h
  shown_channel_refused memory unknown k Unregistered h = s.before k ∙ ap (option_map (column_as value)) h
  shown_channel_refused memory unknown k IndexLimit h = h
  shown_channel_refused memory unknown k OutOfMemory h = has_channel k _ h
  shown_channel_refused memory unknown k Untracked h = has_channel k _ h
  shown_channel_refused memory unknown k UnknownReader h = has_channel k _ h

  pub shown_call_refused : (call : ChannelCall) (k : K) (r : Refusal) → CallIsRefused call (t k) r → CallIsRefused call (u (slot k)) r
  shown_call_refused Register k r = shown_channel_refused _ _ k r
  shown_call_refused (Read reader) k r = shown_channel_refused _ _ k r
  shown_call_refused (End n) k r = shown_channel_refused _ _ k r
  shown_call_refused (Emit on) k r = shown_channel_refused _ _ k r

  pub shown_gets : (p : Population) (k : K) (e : Entity) (found : Option V) → Gets p t k e found → Gets p u (slot k) e (option_map value found)
  shown_gets p k e found g = record {
    column = column_as value g.column;
    registered = s.before k ∙ ap (option_map (column_as value)) g.registered;
    alive = λ a. ap (option_map value) (g.alive a);
    dead = λ d. ap (option_map value) (g.dead d);
  }

  pub shown_gets_clone : (R : V → V → Type 0) (Q : W → W → Type 0) → ((x y : V) → R x y → Q (value x) (value y))
      → (p : Population) (k : K) (e : Entity) (found : Option V) → GetsClone R p t k e found → GetsClone Q p u (slot k) e (option_map value found)
  shown_gets_clone R Q law p k e found g = record {
    column = column_as value g.column;
    registered = s.before k ∙ ap (option_map (column_as value)) g.registered;
    alive = λ a. clone_shown value R Q law (g.column.values (index_of e)) found (g.alive a);
    dead = λ d. ap (option_map value) (g.dead d);
  }

pub on_ok : {A E : Type 0} (r : Result A E) {X Y : Type 0} → (X → Y) → OnOk r X → OnOk r Y
on_ok (Ok a) f x = f x
on_ok (Err e) f x = tt

pub if_ok : {A E : Type 0} (r : Result A E) (P : A → Type 0) (Q : A → Type 0) → ((a : A) → P a → Q a) → IfOk r P → IfOk r Q
if_ok (Ok a) P Q f p = f a p
if_ok (Err e) P Q f p = tt

pub if_err : {A E : Type 0} (r : Result A E) (P : E → Type 0) (Q : E → Type 0) → ((e : E) → P e → Q e) → IfErr r P → IfErr r Q
if_err (Ok a) P Q f p = tt
if_err (Err e) P Q f p = f e p

pub on_err : {A E : Type 0} (r : Result A E) {X Y : Type 0} → (X → Y) → OnErr r X → OnErr r Y
on_err (Ok a) f x = tt
on_err (Err e) f x = f x

-- a storage in its slot
pub in_slot : {T K V : Type 0} (slot : K) (value : T → V) (old new : Table K V) (o o' : Option (Column T)) → old slot ≡ option_map (column_as value) o → new slot ≡ option_map (column_as value) o'
    → ((k : K) → (k ≡ slot) ⊎ (new k ≡ old k)) → Shows (λ (s : Unit {0}). slot) value (λ _. o) (λ _. o') old new
in_slot slot value old new o o' e e' only = record { before = λ _. e; after = λ _. e'; only = λ k. elim (only k) [ inl is ↦ inl (tt, is) | inr same ↦ inr same ] }

field_becomes : {T : Type 0} (o o' : Option (Column T)) (m : Column T) → o' ≡ Some m → Becomes {K = Unit {0}} (λ _. o) tt m (λ _. o')
field_becomes o o' m e = record { here = e; others = λ k d. absurd (d refl) }

pub field_inserts : {T : Type 0} (p : Population) (o o' : Option (Column T)) (e : Entity) (x : T) (before : Option T) → FieldInserts p o e x before o'
    → Inserts {K = Unit {0}} (λ _. tt) p (λ _. o) e x before (λ _. o')
field_inserts p o o' e x before i = record { column = i.column; registered = i.registered; alive = i.alive; told = i.told; put = field_becomes o o' _ i.now }

pub field_removes : {T : Type 0} (p : Population) (o o' : Option (Column T)) (e : Entity) (found : Option T) → FieldRemoves p o e found o' → Removes {K = Unit {0}} p (λ _. o) tt e found (λ _. o')
field_removes p o o' e found r = record {
  column = r.column;
  registered = r.registered;
  alive = λ a. ((r.alive a).0, field_becomes o o' _ (r.alive a).1);
  dead =
      λ d. ((r.dead d).0, ap (λ x _. x) (r.dead d).1);
}

pub field_clears : {T : Type 0} (o o' : Option (Column T)) → FieldClears o o' → Clears {K = Unit {0}} (λ _. o) tt (λ _. o')
field_clears o o' c = record { column = c.column; registered = c.registered; cleared = field_becomes o o' _ c.cleared }

-- of a law that one slot alone changes: the others stay
pub others_stay : {K V : Type 0} (slot : K) (old new : Table K V) → ((k : K) → (k ≡ slot) ⊎ (new k ≡ old k)) → (k : K) → k ≢ slot → new k ≡ old k
others_stay slot old new only k d = elim (only k) [
  | inl e ↦ absurd (d e)
  | inr e ↦ e
]

-- an empty map has no value of any type
pub no_values_as : {T V : Type 0} (value : T → V) (m : map.FinMap nat_cmp T) → m ≡ map.empty → (λ (i : ℕ). option_map value (map.get m i)) ≡ no_value
no_values_as value m e = fun_ext (λ i. ap (λ (n : map.FinMap nat_cmp _). option_map value (map.get n i)) e ∙ ap (option_map value) (map.get-empty nat_cmp i))

-- a slot where none was
pub registers_as : {K V : Type 0} (slot : K) (old new : Table K V) (column : Column V) → old slot ≡ None → new slot ≡ Some column
    → ((k : K) → k ≢ slot → new k ≡ old k) → RegistersAs old slot column new
registers_as slot old new column none here others = rw none (record { here = here; others = others })

-- the same of one that begins
pub registers_fresh : {K V W : Type 0} (value : V → W) (slot : K) (old new : Table K W) (column : Column V) → old slot ≡ None
    → new slot ≡ Some (column_as value column) → IsFresh column → ((k : K) → k ≢ slot → new k ≡ old k) → Registers old slot new
registers_fresh value slot old new column none here fresh others =
    rw none (record { column = column_as value column; fresh = fresh_as value column fresh; becomes = record { here = here; others = others } })
