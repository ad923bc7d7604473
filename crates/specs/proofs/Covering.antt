-- What an index covers, it covers after a run that left its reader's events unread.
use Rattle.std.proofs.Common.{◌≡◌, ◌≢◌, ℕ, Bool, true, false, ◌&&◌, cond, eqb, List, [], ◌∷◌, ◌++◌, refl, ap, sym, ◌∙◌, subst, Option, None, Some, inl, inr}
use mathlib.Core.Path.{fun_ext}
use Rattle.std.specs.Prelude.{IsSome, MatchOption, ◌⊎◌, Result, Ok, Err, OnOk}
use Rattle.std.specs.List.{list_any}
use Rattle.std.specs.Option.{option_map, IfSome, is_some}
use Rattle.std.specs.FinMap as map
use Rattle.std.proofs.lemmas.Bool.{or_parts, eqb-true, false_from_ne_true, and_parts, true≢false, false≢true}
use Rattle.std.proofs.lemmas.List.Folds.{list_any-append}
use Rattle.entities.specs.Population.{lives}
use Rattle.key_index.specs.Indexed.{Covers, IsStale}
use Rattle.key_index.specs.declared.key_index.KeyIndex.{KeyIndex}
use Rattle.storages.specs.Channel.{Channel}
use Rattle.storages.specs.Named.{index_at, is_named, unread_in}
use Rattle.storages.specs.Slot as masked
use Rattle.storages.specs.Tracking as tracking
use Rattle.storages.specs.Unread.{unread_of}
use Rattle.storages.specs.declared.event.ComponentEvent.{ComponentEvent}
use Rattle.specs.specs.Slots.Clones.{Clones}
use Rattle.specs.specs.Slots.Column.{Column}
use Rattle.specs.specs.Typed.Field.{field_column, column_of}
use Rattle.specs.specs.Reading.Following.{Advances, IsListening, IsFollowed, Follows, Tells, Throughout, given, given_by}
use Rattle.specs.specs.Indexing.{LeavesUnread, LeaveUnread, KeepsAll, Knows, Turns}
use Rattle.specs.specs.Laws.Living.{table_only, within_becomes}
use Rattle.specs.specs.Slots.Marks.{Markers}
use Rattle.specs.specs.Laws.Reached.{KeepsLiving}
use Rattle.specs.specs.Slots.Readers.{with_channel}
use Rattle.specs.specs.Typed.Shown.{others_stay}
use Rattle.specs.specs.Typed.Shows.{column_as}
use Rattle.specs.specs.World.State.{State, OnTable}
use Rattle.specs.specs.Job.Steps.{WorldState, Run}
use Rattle.specs.specs.Slots.Table.{Table, Becomes}
use Rattle.specs.specs.Reading.Telling.{unread_emptied}
use Rattle.specs.specs.declared.command.Command.{Command}
use Rattle.specs.specs.declared.command.Command.TheVariants.{Events}
use Rattle.specs.specs.declared.command.Reply.{Reply}
use Rattle.specs.specs.declared.command.Reply.TheVariants.{Events as Given}
use Rattle.specs.specs.declared.job.Job.{Job}
use Rattle.specs.specs.declared.indexing.WorldIndexError.{WorldIndexError}
use Rattle.specs.specs.declared.indexing.WorldIndexError.TheVariants.{Unregistered, UnknownReader, OutOfMemory}
use Rattle.specs.proofs.Values.{same, turned_column}

-- a change of a channel leaves the values
module _ {K V : Type 0} (old new : State K V) (slot : K) (change : Channel → Channel) where
  turned_within : (o : Option (Column V)) → old.table slot ≡ o → MatchOption o (new.table ≡ old.table) (λ c. Becomes old.table slot (with_channel c (change c.channel)) new.table) → new.people ≡ old.people → KeepsLiving old new
  turned_within None was same people w = table_only old new people w (subst (λ (t : Table K V). (k : K) (m : Column V) (i : ℕ) → t k ≡ Some m → IsSome (m.values i) → lives old.people i ≡ true) (sym same) w.values)
  turned_within (Some c) was b people w = table_only old new people w (within_becomes old.table new.table slot _ (lives old.people) b w.values (λ i. w.values slot c i was))

  pub living_turned : OnTable (λ t t'. Turns t slot change t') old new → KeepsLiving old new
  living_turned s = turned_within (old.table slot) refl s.table s.people

option_map-one : {T V : Type 0} (value : T → V) → ((t u : T) → value t ≡ value u → t ≡ u) → (a b : Option T) → option_map value a ≡ option_map value b → a ≡ b
option_map-one value one None None e = refl
option_map-one value one None (Some b) e = cc
option_map-one value one (Some a) None e = cc
option_map-one value one (Some a) (Some b) e = ap Some (one a b (let s : value a ≡ value b = cc in s))

module _ {T V Q : Type 0} (value : T → V) (one : (t u : T) → value t ≡ value u → t ≡ u) (key : T → Q) (kept : List (Option Q)) (n : ℕ) where
  covers_slot : (s s' : masked.Slot T) → Advances n (Some (column_as value (column_of s))) (Some (column_as value (column_of s'))) [] → Covers key kept n s → Covers key kept n s'
  covers_slot s s' f c = record {
    each = λ i lt none.
        (let parts = or_parts (is_named i (unread_in n s)) (is_named i f.events) (sym (list_any-append (λ e. eqb (index_at e) i) (unread_in n s) f.events) ∙ sym (ap (is_named i) f.told) ∙ none) in
        let same = option_map-one value one (map.get s'.map i) (map.get s.map i) (f.leads.kept i parts.1) in
        c.each i lt parts.0 ∙ ap (option_map key) (sym same));
  }

  -- what it covered before the run it covers after it
  pub covers_field : {K : Type 0} (slot : K) (old new : State K V) (field field' : Option (masked.Slot T))
      → old.table slot ≡ option_map (column_as value) (field_column field) → new.table slot ≡ option_map (column_as value) (field_column field')
      → IsFollowed slot n old → Follows slot n old new [] → IfSome field (Covers key kept n) → IfSome field' (Covers key kept n)
  covers_field slot old new None field' e e' followed f c = absurd (subst (λ (o : Option (Column V)). IsListening n o) e followed)
  covers_field slot old new (Some s) None e e' followed f c = tt
  covers_field slot old new (Some s) (Some s') e e' followed f c =
      let f₁ = subst (λ (o : Option (Column V)). Advances n o (new.table slot) []) e f in
      let f₂ = subst (λ (o : Option (Column V)). Advances n (Some (column_as value (column_of s))) o []) e' f₁ in
      covers_slot s s' f₂ c

not_asked : {K : Type 0} (here : K → Bool) (slot : K) (tells : Tells here slot) (n : ℕ) (s : K) (m : ℕ) → (s ≡ slot → m ≡ n → ⊥) → (here s && eqb m n) ≡ false
not_asked here slot tells n s m u = false_from_ne_true (here s && eqb m n) (λ e. let b = and_parts (here s) (eqb m n) e in u ((tells s).0 b.0) (eqb-true m n b.1))

module _ {S J K V : Type 0} (here : K → Bool) (slot : K) (tells : Tells here slot) (n : ℕ) where
  given_by_none : (c : Command S J K V) (r : Reply V) → LeavesUnread slot n c → given_by here n c r ≡ []
  given_by_none (Events s m) (Given es) u = ap (λ (b : Bool). cond b es.items []) (not_asked here slot tells n s m u)
  given_by_none c (Given es) u = refl
  given_by_none c r u = refl

  -- commands that leave the events unread give the reader nothing
  pub given_none : (cs : List (Command S J K V)) (rs : List (Reply V)) → LeaveUnread slot n cs → given here n cs rs ≡ []
  given_none [] rs u = refl
  given_none (c ∷ cs) [] u = refl
  given_none (c ∷ cs) (r ∷ rs) u = ap (λ (es : List ComponentEvent). es ++ given here n cs rs) (given_by_none c r u.0) ∙ given_none cs rs u.1

-- what holds throughout a run holds at its end
pub at_end : {S J K V : Type 0} (place : V → K) (clones : Clones K V) (marks : Markers K V) (does : J → State K V → List (Job S J K V) → State K V → Type 0) (wants : J → State K V → Type 0) (P : WorldState S J K V → Type 0)
    (cs : List (Command S J K V)) (rs : List (Reply V)) (old new : WorldState S J K V) (run : Run place clones marks does wants old cs rs new) → Throughout place clones marks does wants P old cs rs new run → P new
at_end place clones marks does wants P [] [] old new run all = subst P (sym run) all
at_end place clones marks does wants P [] (r ∷ rs) old new run all = absurd run
at_end place clones marks does wants P (c ∷ cs) [] old new run all = absurd run
at_end place clones marks does wants P (c ∷ cs) (r ∷ rs) old new run all = at_end place clones marks does wants P cs rs run.0 new run.2 all.1

-- a reader that has read is registered still
pub still_followed : {T : Type 0} (n : ℕ) (s s' : masked.Slot T) → tracking.Turns s s' (tracking.after_read n s.channel) → IsSome (unread_of n s.channel.readers) → IsSome (unread_of n s'.channel.readers)
still_followed n s s' t there = ap (λ (c : Channel). is_some (unread_of n c.readers)) t.channel ∙ ap is_some (unread_emptied n s.channel.readers there)

-- an index that keeps all knows all
pub knows_kept : {T K Q : Type 0} (key : K → T → Q) (x : KeyIndex T K Q) (field : Option (masked.Slot T)) → KeepsAll key x field → Knows key x field
knows_kept key x None k fresh = tt
knows_kept key x (Some s) k fresh = record { each = λ i lt _. k.each i lt }

-- and so does one that was refused memory
pub knows_after : {A T K Q : Type 0} (r : Result A WorldIndexError) (key : K → T → Q) (x : KeyIndex T K Q) (field : Option (masked.Slot T)) → OnOk r (KeepsAll key x field) → (r ≡ Err Unregistered → ⊥) → (r ≡ Err UnknownReader → ⊥) → (r ≡ Err OutOfMemory → IsStale x) → Knows key x field
knows_after (Ok a) key x field keeps there known memory = knows_kept key x field keeps
knows_after (Err Unregistered) key x field keeps there known memory = absurd (there refl)
knows_after (Err UnknownReader) key x field keeps there known memory = absurd (known refl)
knows_after (Err OutOfMemory) key x field keeps there known memory = λ fresh. absurd (true≢false (sym (memory refl) ∙ fresh))

module _ {T V : Type 0} (value : T → V) (n : ℕ) where
  -- a slot that is followed is registered
  pub followed_there : (field : Option (masked.Slot T)) (o : Option (Column V)) → o ≡ option_map (column_as value) (field_column field) → IsListening n o → field ≡ None → ⊥
  followed_there field o e followed none = subst (λ (x : Option (Column V)). IsListening n x) (e ∙ ap (λ (f : Option (masked.Slot T)). option_map (column_as value) (field_column f)) none) followed

  -- and its reader too
  pub followed_known : (field : Option (masked.Slot T)) (o : Option (Column V)) → o ≡ option_map (column_as value) (field_column field) → IsListening n o → IfSome field (λ s. unread_of n s.channel.readers ≡ None) → ⊥
  followed_known None o e followed none = subst (λ (x : Option (Column V)). IsListening n x) e followed
  followed_known (Some s) o e followed none = true≢false (sym (subst (λ (x : Option (Column V)). IsListening n x) e followed).1 ∙ ap is_some none)

-- a storage in its place, whose channel alone changed
module _ {S T K V : Type 0} (part : S → Option (masked.Slot T)) (with_part : S → masked.Slot T → S) (table : S → Table K V) (slot : K) (value : T → V)
    (sees : (s : S) → table s slot ≡ option_map (column_as value) (field_column (part s))) (only : (s : S) (w : masked.Slot T) (k : K) → (k ≡ slot) ⊎ (table (with_part s w) k ≡ table s k))
    (puts : (s : S) (w : masked.Slot T) → part (with_part s w) ≡ Some w) where
  column_at : (s : S) (a : masked.Slot T) → part s ≡ Some a → table s slot ≡ Some (column_as value (column_of a))
  column_at s a there = sees s ∙ ap (λ (o : Option (masked.Slot T)). option_map (column_as value) (field_column o)) there

  pub turns_in : (s : S) (a b : masked.Slot T) (change : Channel → Channel) → part s ≡ Some a → tracking.Turns a b (change a.channel) → Turns (table s) slot change (table (with_part s b))
  turns_in s a b change there t = by (table s slot) (column_at s a there)
    where
      becomes : Becomes (table s) slot (with_channel (column_as value (column_of a)) (change a.channel)) (table (with_part s b))
      becomes = record {
        here = column_at (with_part s b) b (puts s b) ∙ ap (λ (c : Column T). Some (column_as value c)) (turned_column a b _ t);
        others = others_stay slot (table s) (table (with_part s b)) (only s b);
      }

      by : (o : Option (Column V)) → o ≡ Some (column_as value (column_of a)) → MatchOption o (table (with_part s b) ≡ table s) (λ c. Becomes (table s) slot (with_channel c (change c.channel)) (table (with_part s b)))
      by None e = absurd (false≢true (ap is_some e))
      by (Some c) e = subst (λ (o : Option (Column V)). MatchOption o (table (with_part s b) ≡ table s) (λ c. Becomes (table s) slot (with_channel c (change c.channel)) (table (with_part s b)))) (sym e) becomes

  -- the reader follows the slot still, once it has read
  pub followed_in : (s : S) (a b : masked.Slot T) (n : ℕ) → part s ≡ Some a → tracking.Turns a b (tracking.after_read n a.channel) → IsListening n (table s slot) → IsListening n (table (with_part s b) slot)
  followed_in s a b n there t l =
      let was = subst (λ (o : Option (Column V)). IsListening n o) (column_at s a there) l in
      subst (λ (o : Option (Column V)). IsListening n o) (sym (column_at (with_part s b) b (puts s b))) (ap (λ (c : Channel). c.emission) t.channel ∙ was.0, still_followed n a b t was.1)

  -- the same storage shows the same
  pub same_in : (s : S) (a b : masked.Slot T) → part s ≡ Some a → masked.IsSame a b → table (with_part s b) ≡ table s
  same_in s a b there i =
      fun_ext (λ k. elim (only s b k) [
        | inl here ↦ ap (table (with_part s b)) here ∙ column_at (with_part s b) b (puts s b) ∙ ap (λ (c : Column T). Some (column_as value c)) (same a b i) ∙ sym (column_at s a there) ∙ ap (table s) (sym here)
        | inr other ↦ other
      ])
