-- What the mark of an allocator makes of a storage of markers as a slot.
use Rattle.std.proofs.Common.{◌≡◌, ℕ, Bool, true, false, cond, refl, sym, ap, ◌∙◌, Option, Some, None, inl, inr}
use Rattle.std.specs.Prelude.{is_some, Result, Ok, Err, IfOk, IfErr}
use Rattle.std.specs.FinMap as map
use Rattle.std.proofs.lemmas.Bool.{false≢true}
use Rattle.std.proofs.lemmas.Option.{same_Some}
use Rattle.entities.specs.declared.entity.Entity.{Entity}
use Rattle.entities.specs.Census.{Census, population}
use Rattle.entities.specs.Population.{index_of, Population}
use Rattle.storages.specs.Channel.{emitted}
use Rattle.storages.specs.Found.{found_in}
use Rattle.storages.specs.Life.{is_alive}
use Rattle.storages.specs.Slot as masked
use Rattle.storages.specs.declared.event.ComponentEvent.TheVariants.{Inserted, Modified}
use Rattle.saveload.specs.declared.mark_error.MarkError.{MarkError}
use Rattle.saveload.specs.declared.mark_error.MarkError.TheVariants as failure
use Rattle.saveload.specs.Marking.{MarksNew, IsOfIds, TakesOne}
use Rattle.specs.specs.Typed.Field.{column_of}
use Rattle.specs.specs.Slots.Column.{Column, column_is}
use Rattle.specs.specs.Slots.Ids.{LeftAfter}
use Rattle.specs.specs.Slots.Marks.{IsGiven, FieldGivesMarker, FieldMarkerIsRefused, LacksMarker}
use Rattle.specs.proofs.Values.{alive_fact, values-insert}

none_by : {V : Type 0} (o : Option V) → is_some o ≡ false → o ≡ None
none_by None e = refl
none_by (Some x) e = absurd (false≢true (sym e))

-- an entity that is alive and lacks a marker gets one, whatever the answer
module _ {M : Type 0} (c : Census) (s : masked.Slot M) (e : Entity) (alive : is_alive (population c) e ≡ true) (none : map.contains_key s.map (index_of e) ≡ false) where
  given_marker : {I : Type 0} (id_of : M → I) (eq : I → I → Bool) (MayBeNew : I → Type 0) (a a' : I → Option Entity) (s' : masked.Slot M) (o : Option Bool)
      → is_some o ≡ is_alive (population c) e → (o ≡ Some false → is_some (found_in c s e) ≡ true) → (o ≡ Some true → MarksNew id_of eq MayBeNew e a a' s s')
      → FieldGivesMarker (IsGiven id_of eq MayBeNew e a a') (population c) (Some (column_of s)) e o (Some (column_of s'))
  given_marker id_of eq MayBeNew a a' s' None dead was new = absurd (false≢true (dead ∙ alive))
  given_marker id_of eq MayBeNew a a' s' (Some false) dead was new = absurd (false≢true (sym none ∙ sym (ap (λ b. is_some (cond b (map.get s.map (index_of e)) None)) alive) ∙ was refl))
  given_marker id_of eq MayBeNew a a' s' (Some true) dead was new =
      let made = new refl in
      let becomes = made.2.becomes in
      record {
        column = column_of s;
        registered = refl;
        alive = alive_fact (population c) e alive;
        absent = none_by _ none;
        value = made.0;
        comes = (made.1, made.2.mapping);
        now = ap Some (column_is (values-insert s.map s'.map (index_of e) made.0 becomes.map) (becomes.channel ∙ ap (λ (b : Bool). emitted (cond b (Modified (index_of e)) (Inserted (index_of e))) s.channel) (sym none)) becomes.needs_inner);
      }

  pub lacks_now : LacksMarker (population c) (Some (column_of s)) e
  lacks_now = record { column = column_of s; registered = refl; alive = alive_fact (population c) e alive; absent = none_by _ none }

  -- the same of an answer, if there is one
  pub given : {I : Type 0} (id_of : M → I) (eq : I → I → Bool) (MayBeNew : I → Type 0) (a a' : I → Option Entity) (s' : masked.Slot M) (r : Result (Option Bool) MarkError)
      → IfOk r (λ o. is_some o ≡ is_alive (population c) e) → IfOk r (λ o. o ≡ Some false → is_some (found_in c s e) ≡ true) → IfOk r (λ o. o ≡ Some true → MarksNew id_of eq MayBeNew e a a' s s')
      → IfOk r (λ o. FieldGivesMarker (IsGiven id_of eq MayBeNew e a a') (population c) (Some (column_of s)) e o (Some (column_of s')))
  given id_of eq MayBeNew a a' s' (Ok o) dead was new = given_marker id_of eq MayBeNew a a' s' o dead was new
  given id_of eq MayBeNew a a' s' (Err r) dead was new = tt

-- what an answer leaves of the ids
left_by : (o : Option Bool) (a b : Option ℕ) → (o ≡ Some true → TakesOne a b) → ((o ≡ Some true → ⊥) → b ≡ a) → LeftAfter o a b
left_by None a b takes keeps = keeps (λ e. false≢true (ap is_some e))
left_by (Some false) a b takes keeps = keeps (λ e. false≢true (same_Some _ _ e))
left_by (Some true) a b takes keeps = takes refl

pub left_after : {E : Type 0} (r : Result (Option Bool) E) (a b : Option ℕ) → IfOk r (λ o. o ≡ Some true → TakesOne a b) → IfOk r (λ o. (o ≡ Some true → ⊥) → b ≡ a) → IfOk r (λ o. LeftAfter o a b)
left_after (Ok o) a b takes keeps = left_by o a b takes keeps
left_after (Err e) a b takes keeps = tt

-- an entity that is alive and lacks a marker gets none because of the ids, or of memory
pub refused_by : {A V : Type 0} (r : Result A MarkError) (left : Option ℕ) (p : Population) (field : Option (Column V)) (e : Entity) → LacksMarker p field e
    → (r ≡ Err failure.IdsExhausted → left ≡ Some 0) → (r ≡ Err failure.IdTaken → left ≡ None) → (r ≡ Err failure.OutOfMemory → left ≡ Some 0 → ⊥) → IfErr r IsOfIds → IfErr r (FieldMarkerIsRefused left p field e)
refused_by (Ok a) left p field e lacks up drawn some ids = tt
refused_by (Err failure.Unregistered) left p field e lacks up drawn some (inl x) = absurd (cc)
refused_by (Err failure.Unregistered) left p field e lacks up drawn some (inr (inl x)) = absurd (cc)
refused_by (Err failure.Unregistered) left p field e lacks up drawn some (inr (inr x)) = absurd (cc)
refused_by (Err failure.NoMarker) left p field e lacks up drawn some (inl x) = absurd (cc)
refused_by (Err failure.NoMarker) left p field e lacks up drawn some (inr (inl x)) = absurd (cc)
refused_by (Err failure.NoMarker) left p field e lacks up drawn some (inr (inr x)) = absurd (cc)
refused_by (Err failure.IdsExhausted) left p field e lacks up drawn some ids = (lacks, up refl)
refused_by (Err failure.IdTaken) left p field e lacks up drawn some ids = (lacks, drawn refl)
refused_by (Err failure.OutOfMemory) left p field e lacks up drawn some ids = (lacks, some refl)
