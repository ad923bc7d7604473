-- What each change of a slot's column is to a reader that listens to it.
use Rattle.std.proofs.Common.{◌≡◌, ◌<◌, ℕ, Bool, true, eqb, cond, List, [], ◌∷◌, ◌++◌, map, refl, sym, ap, ◌∙◌, subst, Option, Some, None, is_some, inl, inr}
use Rattle.std.specs.Prelude.{IsSome}
use Rattle.std.specs.Option.{option_map}
use Rattle.std.proofs.lemmas.List.{append-nil}
use Rattle.std.proofs.lemmas.Bool.{false≢true, cases_Bool, cases_eq, eq-eqb, ne_eqb}
use Rattle.hibits.specs.declared.limits.TheConstants.{INDEX_LIMIT}
use Rattle.hibits.specs.Left.{left}
use Rattle.entities.specs.declared.entity.Entity.{Entity}
use Rattle.storages.specs.declared.event.ComponentEvent.{ComponentEvent}
use Rattle.storages.specs.declared.event.ComponentEvent.TheVariants.{Inserted, Modified, Removed}
use Rattle.storages.specs.Channel.{Channel, emitted}
use Rattle.storages.specs.Removals.{lost}
use Rattle.storages.specs.Tracking.{with_reader, after_read, without_reader, switched}
use Rattle.storages.specs.Unread.{unread_of, with_events, emptied as read_out}
use Rattle.storages.specs.Heard.{no_events, written_events, removals_unread, emptied_others, dropped_others}
use Rattle.specs.specs.Slots.Maps.{has_value}
use Rattle.specs.specs.Slots.Column.{Column, with_value, without_value, without_values, emptied}
use Rattle.specs.specs.Slots.Readers.{with_channel}
use Rattle.specs.specs.Reading.Leading.{Leads}
use Rattle.storages.specs.Named.{or_none}
use Rattle.specs.specs.Reading.Following.{values_of, unread_at, IsListening, Advances}
use Rattle.specs.specs.Reading.Leads.{leads_none, leads_put, leads_without_one, same_without_one, leads_lost, leads_cleared}
use Rattle.specs.specs.Reading.Telling.{still_some, unread_registered, unread_emptied}

or_more : (es : List ComponentEvent) (o : Option (List ComponentEvent)) → IsSome o → or_none (with_events es o) ≡ or_none o ++ es
or_more es None h = absurd (false≢true h)
or_more es (Some us) h = refl

-- each index with a value is below the limit
abbrev pub IsBelow : {V : Type 0} → Option (Column V) → Type 0
IsBelow o = (i : ℕ) → IsSome (values_of o i) → i < INDEX_LIMIT

-- the reader still listens, and got what leads from the one to the other
pub record Keeps {V : Type 0} (n : ℕ) (old new : Option (Column V)) (given : List ComponentEvent) : Type 0 where
  pub advances : IsBelow old → Advances n old new given
  pub listening : IsListening n new

module _ {V : Type 0} (n : ℕ) where
  pub stays : (o : Option (Column V)) → IsListening n o → Keeps n o o []
  stays o l = record {
    advances = λ _. record { events = []; leads = leads_none (values_of o); told = sym (append-nil (unread_at n o)) };
    listening = l;
  }

  -- events came that lead from the values before to those after, and the reader was told of them
  tells : (c c' : Column V) (es : List ComponentEvent) → IsListening n (Some c) → (IsBelow (Some c) → Leads c.values c'.values es) → c'.channel.emission ≡ true
      → unread_of n c'.channel.readers ≡ with_events es (unread_of n c.channel.readers) → Keeps n (Some c) (Some c') []
  tells c c' es l leads emission unread = record {
    advances = λ below. record { events = es; leads = leads below; told = ap or_none unread ∙ or_more es (unread_of n c.channel.readers) l.1 };
    listening = (emission, subst (λ (o : Option (List ComponentEvent)). IsSome o) (sym unread) (still_some es (unread_of n c.channel.readers) l.1));
  }

  -- only the channel changed, and not what the reader has to read
  spares : (c : Column V) (channel : Channel) → IsListening n (Some c) → channel.emission ≡ true → unread_of n channel.readers ≡ unread_of n c.channel.readers
      → Keeps n (Some c) (Some (with_channel c channel)) []
  spares c channel l emission unread = tells c (with_channel c channel) [] l (λ _. leads_none c.values) emission (unread ∙ sym (no_events (unread_of n c.channel.readers)))

  pub puts : (c : Column V) (i : ℕ) (v : V) → IsListening n (Some c) → Keeps n (Some c) (Some (with_value c i v)) []
  puts c i v l = tells c (with_value c i v) (cond (has_value c.values i) (Modified i) (Inserted i) ∷ []) l (λ _. leads_put c.values i v) l.0 (rw l.0 (written_events _ n c.channel.readers))

  pub takes : (c : Column V) (i : ℕ) → IsListening n (Some c) → Keeps n (Some c) (Some (without_value c i)) []
  takes c i l = elim (cases_Bool (has_value c.values i)) [
    | inl on ↦
        let told : (without_value c i).channel ≡ emitted (Removed i) c.channel = ap (λ b. cond b (emitted (Removed i) c.channel) c.channel) on in
        tells c (without_value c i) (Removed i ∷ []) l (λ _. leads_without_one c.values i on) (ap (λ (k : Channel). k.emission) told ∙ l.0)
        (ap (λ (k : Channel). unread_of n k.readers) told ∙ (rw l.0 (written_events (Removed i) n c.channel.readers)))
    | inr off ↦
        let same : (without_value c i).channel ≡ c.channel = ap (λ b. cond b (emitted (Removed i) c.channel) c.channel) off in
        let values = same_without_one c.values i off in
        tells c (without_value c i) [] l (λ _. record { mask = λ j. ap is_some (values j); kept = λ j e. values j }) (ap (λ (k : Channel). k.emission) same ∙ l.0)
        (ap (λ (k : Channel). unread_of n k.readers) same ∙ sym (no_events (unread_of n c.channel.readers)))
  ]

  pub loses : (es : List Entity) (o : Option (Column V)) → IsListening n o → Keeps n o (option_map (without_values es) o) []
  loses es None l = absurd l
  loses es (Some c) l = tells c (without_values es c) (map Removed (lost es (has_value c.values))) l (λ _. leads_lost c.values es) l.0
      (rw l.0 (removals_unread n (lost es (has_value c.values)) c.channel.readers))

  pub empties : (c : Column V) → IsListening n (Some c) → Keeps n (Some c) (Some (emptied c)) []
  empties c l = tells c (emptied c) (map Removed (left (has_value c.values) 0)) l (λ below. leads_cleared c.values below) l.0
      (rw l.0 (removals_unread n (left (has_value c.values) 0) c.channel.readers))

  pub registers : (c : Column V) → IsListening n (Some c) → Keeps n (Some c) (Some (with_channel c (with_reader c.channel))) []
  registers c l = spares c (with_reader c.channel) l l.0 (unread_registered n (c.channel.registered, []) c.channel.readers l.1)

  pub drops : (c : Column V) (m : ℕ) → (m ≡ n → ⊥) → IsListening n (Some c) → Keeps n (Some c) (Some (with_channel c (without_reader m c.channel))) []
  drops c m other l = spares c (without_reader m c.channel) l l.0 (dropped_others m n c.channel.readers (λ e. other (sym e)))

  pub switches : (c : Column V) (on : Bool) → on ≡ true → IsListening n (Some c) → Keeps n (Some c) (Some (with_channel c (switched on c.channel))) []
  switches c on is l = spares c (switched on c.channel) l is refl

  -- a read, of this reader or of another
  pub reads : (c : Column V) (m : ℕ) (es : List ComponentEvent) → unread_of m c.channel.readers ≡ Some es → IsListening n (Some c)
      → Keeps n (Some c) (Some (with_channel c (after_read m c.channel))) (cond (eqb m n) es [])
  reads c m es is l = elim (cases_eq m n) [
    | inr other ↦ rw (ne_eqb m n other) (spares c (after_read m c.channel) l l.0 (emptied_others m n c.channel.readers (λ e. other (sym e))))
    | inl own ↦
        let rs : List (ℕ × List ComponentEvent) = c.channel.readers in
        let after : unread_of n (read_out m rs) ≡ Some [] = subst (λ k. unread_of n (read_out k rs) ≡ Some []) (sym own) (unread_emptied n rs l.1) in
        let before : unread_of n rs ≡ Some es = subst (λ k. unread_of k rs ≡ Some es) own is in
        rw (eq-eqb m n own) (record {
          advances = λ _. record { events = []; leads = leads_none c.values; told = ap (λ o. es ++ or_none o) after ∙ sym (ap (λ o. or_none o ++ []) before) };
          listening = (l.0, ap is_some after);
        })
  ]
