-- A reader who follows a slot gets what leads from its values before a run to those after.
use Rattle.std.proofs.Common.{◌≡◌, ◌≢◌, ℕ, Bool, true, false, eqb, List, [], ◌∷◌, refl, sym, ap, ◌∙◌, subst, Option, Some, None, is_some, inl, inr}
use mathlib.Core.Path.{fun_ext}
use Rattle.std.proofs.lemmas.Bool.{false≢true, cases_Bool}
use Rattle.std.proofs.lemmas.List.Folds.{list_any-append}
use Rattle.entities.specs.Merges.{the_marked}
use Rattle.storages.specs.declared.event.ComponentEvent.{ComponentEvent}
use Rattle.storages.specs.Channel.{Channel}
use Rattle.storages.specs.Tracking.{without_reader, switched}
use Rattle.storages.specs.Unread.{unread_of, dropped}
use Rattle.specs.specs.Slots.Clones.{Clones}
use Rattle.specs.specs.declared.command.Command.{Command}
use Rattle.specs.specs.declared.command.Command.TheVariants.{Register, Create, CreatePending, Delete, DeleteAll, MarkDead, IsAlive as AskAlive, IsLiving as AskLiving, EntityAt, Insert, Get, Remove, Clear, Count as AskCount, Select, Queue, Maintain, Reader, Events, DropReader, Emit}
use Rattle.specs.specs.declared.command.Reply.{Reply}
use Rattle.specs.specs.declared.command.Reply.TheVariants.{Done, Entity as Told, Bool as Yes, Value, Count, Indices, Maintained as Kept, Reader as NewReader, Events as Given, Refused, InsertRefused}
use Rattle.specs.specs.Slots.Column.{Column}
use Rattle.specs.specs.Slots.Table.{Table}
use Rattle.specs.specs.Slots.Readers.{with_channel}
use Rattle.specs.specs.World.People.{the_living}
use Rattle.specs.specs.Laws.Reached.{OnlyLiving}
use Rattle.specs.specs.World.State.{State, merged}
use Rattle.specs.specs.Job.Steps.{WorldState, CoreStep, Maintains, Step, Run}
use Rattle.specs.specs.declared.command.Maintained.{Maintained}
use Rattle.specs.specs.declared.job.Job.{Job}
use Rattle.specs.specs.Laws.Evolving.{Evolves, ValuesLive}
use Rattle.specs.specs.Job.Jobs.{RunsJobs}
use Rattle.specs.proofs.Carrying.{carried, each_more}
use Rattle.specs.specs.Slots.Ids.{Ids}
use Rattle.specs.proofs.Lasting.{living_whatever_ids, grown, merged_kept, inserted_living, removed_living, living_step}
use Rattle.storages.specs.Named.{index_at, is_named}
use Rattle.specs.specs.Reading.Leading.{replay}
use Rattle.specs.specs.Reading.Following.{unread, IsListening, IsFollowed, Follows, Replays, given_by, given, Throughout, JobSpares, AllSpare, Spared, IsWatched, IsQuiet, AreQuiet, Tells}
use Rattle.specs.specs.Slots.Marks.{Markers}
use Rattle.specs.specs.Reading.Leads.{replay-append, or_false}
use Rattle.storages.specs.Heard.{dropped_gone}
use Rattle.specs.specs.Reading.Advancing.{Keeps, empties, registers, drops, switches, reads}
use Rattle.specs.specs.Reading.OneSlot.{KeepsAt, same_table, one_slot, one_quiet, advances_more, dropped_keeps, inserted_keeps, registered_keeps, removed_keeps, living_below}

module _ {K V : Type 0} (slot : K) (n : ℕ) (here : K → Bool) (tells : Tells here slot) where
  pub keeps_following : {S J : Type 0} (spares : J → K → ℕ → Type 0) (place : V → K) (clones : Clones K V) (old : State K V) (c : Command S J K V) (r : Reply V) (new : State K V) → CoreStep place clones old c r new → IsQuiet spares slot n c → IsFollowed slot n old → Keeps n (old.table slot) (new.table slot) (given_by here n c r)
  keeps_following spares place clones old command (Refused r) new s q l = same_table slot n old.table new.table (ap (λ (t : State K V). t.table) s.1) l
  keeps_following spares place clones old (Register slot') Done new s q l = registered_keeps slot n here tells slot' old.table new.table (old.table slot') refl s.table l
  keeps_following spares place clones old Create (Told e) new s q l = same_table slot n old.table new.table s.table l
  keeps_following spares place clones old CreatePending (Told e) new s q l = same_table slot n old.table new.table s.table l
  keeps_following spares place clones old (Delete es) Done new s q l = dropped_keeps slot n es.items old.table new.table (s.table slot) l
  keeps_following spares place clones old DeleteAll Done new s q l = dropped_keeps slot n (the_living old.people) old.table new.table (s.table slot) l
  keeps_following spares place clones old (MarkDead e) Done new s q l = same_table slot n old.table new.table s.table l
  keeps_following spares place clones old (AskAlive e) (Yes b) new s q l = same_table slot n old.table new.table (ap (λ (t : State K V). t.table) s.1) l
  keeps_following spares place clones old (AskLiving e) (Yes b) new s q l = same_table slot n old.table new.table (ap (λ (t : State K V). t.table) s.1) l
  keeps_following spares place clones old (EntityAt i) (Told e) new s q l = same_table slot n old.table new.table (ap (λ (t : State K V). t.table) s.1) l
  keeps_following spares place clones old (Insert e value) (Value before) new s q l = inserted_keeps slot n here tells place old new e value before s l
  keeps_following spares place clones old (Insert e value) (InsertRefused r back) new s q l = same_table slot n old.table new.table (ap (λ (t : State K V). t.table) s.2) l
  keeps_following spares place clones old (Get k e) (Value found) new s q l = same_table slot n old.table new.table (ap (λ (t : State K V). t.table) s.1) l
  keeps_following spares place clones old (Remove k e) (Value found) new s q l = removed_keeps slot n here tells old.people k e found old.table new.table s.table l
  keeps_following spares place clones old (Clear k) Done new s q l = one_quiet slot n here tells k old.table new.table s.table.column _ s.table.registered s.table.cleared l (λ same. empties n s.table.column)
  keeps_following spares place clones old (AskCount k) (Count m) new s q l = same_table slot n old.table new.table (ap (λ (t : State K V). t.table) s.1) l
  keeps_following spares place clones old (Select x) (Indices is) new s q l = same_table slot n old.table new.table (ap (λ (t : State K V). t.table) s.1) l
  keeps_following spares place clones old (Reader k) (NewReader m) new s q l = one_quiet slot n here tells k old.table new.table s.table.column _ s.table.registered s.table.becomes l (λ same. registers n s.table.column)
  keeps_following spares place clones old (Events k m) (Given es) new s q l = one_slot slot n here tells k old.table new.table s.table.column _ _ s.table.registered s.table.becomes l
      (λ same. rw ((tells k).1 same) (reads n s.table.column m es.items s.table.said))
      (λ other. rw (off k other) refl)
    where
      off : (k : K) → k ≢ slot → here k ≡ false
      off k other = elim (cases_Bool (here k)) [ inl on ↦ absurd (other ((tells k).0 on)) | inr f ↦ f ]
  keeps_following spares place clones old (DropReader k m) Done new s q l = one_quiet slot n here tells k old.table new.table s.table.column _ s.table.registered s.table.becomes l (λ same. drops n s.table.column m (q same))
  keeps_following spares place clones old (Emit k on) Done new s q l = one_quiet slot n here tells k old.table new.table s.table.column _ s.table.registered s.table.becomes l (λ same. switches n s.table.column on (q same))
  keeps_following spares place clones old command reply new s q l = absurd s

  -- the events are on after it, and the reader is registered, so it switched none off and dropped another
  follows_step : {S J : Type 0} (spares : J → K → ℕ → Type 0) (place : V → K) (clones : Clones K V) (old : State K V) (c : Command S J K V) (r : Reply V) (new : State K V) → CoreStep place clones old c r new → OnlyLiving old → IsFollowed slot n old → IsFollowed slot n new → Follows slot n old new (given_by here n c r)
  follows_step spares place clones old command (Refused r) new s w l after = (same_table slot n old.table new.table (ap (λ (t : State K V). t.table) s.1) l).advances (living_below slot old w)
  follows_step spares place clones old (DropReader k m) Done new s w l after = (keeps_following {S = ℕ} spares place clones old (DropReader k m) Done new s (λ same own. dropped_is_gone k m s.table.column s.table.column.channel new.table (subst (λ (t : K). new.table t ≡ Some (with_channel s.table.column (without_reader m s.table.column.channel))) same s.table.becomes.here) own after) l).advances (living_below slot old w)
    where
      dropped_is_gone : (k : K) (m : ℕ) (c : Column V) (channel : Channel) (t : Table K V) → t slot ≡ Some (with_channel c (without_reader m channel)) → m ≡ n → IsListening n (t slot) → ⊥
      dropped_is_gone k m c channel t is own listens =
          let l : IsListening n (Some (with_channel c (without_reader m channel))) = subst (IsListening n) is listens in
          false≢true (subst (λ (o : Option (List ComponentEvent)). is_some o ≡ true) (subst (λ j. unread_of n (dropped j channel.readers) ≡ None) (sym own) (dropped_gone n channel.readers)) l.1)
  follows_step spares place clones old (DropReader k m) reply new s w l after = absurd s
  follows_step spares place clones old (Emit k on) Done new s w l after = (keeps_following {S = ℕ} spares place clones old (Emit k on) Done new s (λ same. (subst (IsListening n) (subst (λ (t : K). new.table t ≡ Some (with_channel s.table.column (switched on s.table.column.channel))) same s.table.becomes.here) after).0) l).advances (living_below slot old w)
  follows_step spares place clones old (Emit k on) reply new s w l after = absurd s
  follows_step spares place clones old (Queue job) r new s w l after = absurd s
  follows_step spares place clones old c r new s w l after = (keeps_following spares place clones old c r new s tt l).advances (living_below slot old w)

  -- a state in the middle of a run of jobs, to which what followed leads from the first one
  record StillFollows (first s : State K V) : Type 0 where
    living : OnlyLiving s
    followed : IsFollowed slot n s
    follows : Follows slot n first s []

  goes_whatever_ids : (first s : State K V) (ids : Ids K) → StillFollows first s → StillFollows first (record s { ids = ids })
  goes_whatever_ids first s ids h = record {
    living = living_whatever_ids s ids h.living;
    followed = h.followed;
    follows = record { events = h.follows.events; leads = h.follows.leads; told = h.follows.told };
  }

  goes_on : (first old new : State K V) → StillFollows first old → OnlyLiving new → KeepsAt slot n old.table new.table [] → StillFollows first new
  goes_on first old new h living k = record { living = living; followed = k.listening; follows = advances_more n (first.table slot) (old.table slot) (new.table slot) [] [] h.follows (k.advances (living_below slot old h.living)) }

  module _ {S J : Type 0} (place : V → K) (clones : Clones K V) (marks : Markers K V) (does : J → State K V → List (Job S J K V) → State K V → Type 0) (wants : J → State K V → Type 0) (spares : J → K → ℕ → Type 0)
      (law : (j : J) (slot : K) (n : ℕ) (old new : State K V) (more : List (Job S J K V)) → does j old more new → spares j slot n → IsFollowed slot n old → Spared spares slot n old more new) where
    -- jobs that spare a reader let it follow the slot
    followed_jobs : (stopped : Bool) (limit count counted : ℕ) (old new : State K V) (jobs left : List (Job S J K V)) → RunsJobs place marks does wants stopped limit count counted old jobs new left → AllSpare spares slot n jobs → IsFollowed slot n old → IsFollowed slot n new × AllSpare spares slot n left
    followed_jobs = carried place marks does wants (IsFollowed slot n) (JobSpares spares slot n) (λ s ids l. l)
        (λ place old new e value before s l. (inserted_keeps slot n here tells place old new e value before s l).listening)
        (λ old new k e found s l. (removed_keeps slot n here tells old.people k e found old.table new.table s.table l).listening)
        (λ j old new more q s l. ((law j slot n old new more s q l).followed, (law j slot n old new more s q l).added))
        (λ pairs rest q. tt)

    watched_step : (old : WorldState S J K V) (c : Command S J K V) (r : Reply V) (new : WorldState S J K V) → Step place clones marks does wants old c r new → IsQuiet spares slot n c → IsWatched spares slot n old → IsWatched spares slot n new
    watched_step old (Queue job) Done new s q h = record {
      followed = subst (IsFollowed slot n) (sym s.core) h.followed;
      spared = subst (AllSpare spares slot n) (sym s.jobs) (each_more (JobSpares spares slot n) old.jobs (job ∷ []) h.spared (q, tt));
    }
    watched_step old (Maintain limit) (Kept m) new s q h =
        let after = followed_jobs m.stopped limit m.ran m.refused (merged old.core) new.core old.jobs new.jobs s.jobs h.spared (dropped_keeps slot n (the_marked old.core.people) old.core.table (merged old.core).table refl h.followed).listening in
        record { followed = after.0; spared = after.1 }
    watched_step old c r new s q h = record {
      followed = (keeps_following spares place clones old.core c r new.core s.core q h.followed).listening;
      spared = subst (AllSpare spares slot n) (sym s.jobs) h.spared;
    }

    pub followed_run : (cs : List (Command S J K V)) (rs : List (Reply V)) (old new : WorldState S J K V) (run : Run place clones marks does wants old cs rs new) → AreQuiet spares slot n cs → IsWatched spares slot n old → Throughout place clones marks does wants (IsWatched spares slot n) old cs rs new run
    followed_run [] [] old new run q h = h
    followed_run [] (r ∷ rs) old new run q h = absurd run
    followed_run (c ∷ cs) [] old new run q h = absurd run
    followed_run (c ∷ cs) (r ∷ rs) old new run q h = (h, followed_run cs rs run.0 new run.2 q.1 (watched_step old c r run.0 run.1 q.0 h))

    at_first : (cs : List (Command S J K V)) (rs : List (Reply V)) (old new : WorldState S J K V) (run : Run place clones marks does wants old cs rs new) → Throughout place clones marks does wants (IsWatched spares slot n) old cs rs new run → IsWatched spares slot n old
    at_first [] [] old new run t = t
    at_first [] (r ∷ rs) old new run t = absurd t
    at_first (c ∷ cs) [] old new run t = absurd t
    at_first (c ∷ cs) (r ∷ rs) old new run t = t.0

    module _ (grows : (j : J) (old new : State K V) (more : List (Job S J K V)) → does j old more new → Evolves old.people new.people)
        (lives_on : (j : J) (old new : State K V) (more : List (Job S J K V)) → does j old more new → OnlyLiving old → ValuesLive new) where
      maintain_follows : (old new : WorldState S J K V) (limit : ℕ) (m : Maintained) → Maintains place marks does wants old limit m new → OnlyLiving old.core → IsWatched spares slot n old → Follows slot n old.core new.core []
      maintain_follows old new limit m s w h =
          let dying = dropped_keeps slot n (the_marked old.core.people) old.core.table (merged old.core).table refl h.followed in
          (carried place marks does wants (StillFollows old.core) (JobSpares spares slot n) (goes_whatever_ids old.core)
          (λ place a b e value before s h. goes_on old.core a b h (inserted_living place a b e value before s h.living) (inserted_keeps slot n here tells place a b e value before s h.followed))
          (λ a b k e found s h. goes_on old.core a b h (removed_living place a b k e found s h.living) (removed_keeps slot n here tells a.people k e found a.table b.table s.table h.followed))
          (λ j a b more q s h. (own_goes_on old.core j a b more q s h, (law j slot n a b more s q h.followed).added))
          (λ pairs rest q. tt)
          m.stopped limit m.ran m.refused (merged old.core) new.core old.jobs new.jobs s.jobs h.spared
          (record { living = merged_kept old.core w; followed = dying.listening; follows = dying.advances (living_below slot old.core w) })).0.follows
        where
          own_goes_on : (first : State K V) (j : J) (a b : State K V) (more : List (Job S J K V)) → spares j slot n → does j a more b → StillFollows first a → StillFollows first b
          own_goes_on first j a b more q s h = record {
            living = grown a b (grows j a b more s) h.living (lives_on j a b more s h.living);
            followed = (law j slot n a b more s q h.followed).followed;
            follows = advances_more n (first.table slot) (a.table slot) (b.table slot) [] [] h.follows ((law j slot n a b more s q h.followed).follows h.living);
          }

      world_follows : (old : WorldState S J K V) (c : Command S J K V) (r : Reply V) (new : WorldState S J K V) → Step place clones marks does wants old c r new → OnlyLiving old.core → IsWatched spares slot n old → IsWatched spares slot n new → Follows slot n old.core new.core (given_by here n c r)
      world_follows old (Queue job) Done new s w h after = (same_table slot n old.core.table new.core.table (ap (λ (t : State K V). t.table) s.core) h.followed).advances (living_below slot old.core w)
      world_follows old (Maintain limit) (Kept m) new s w h after = maintain_follows old new limit m s w h
      world_follows old c r new s w h after = follows_step spares place clones old.core c r new.core s.core w h.followed after.followed

      pub follows_run : (cs : List (Command S J K V)) (rs : List (Reply V)) (old new : WorldState S J K V) (run : Run place clones marks does wants old cs rs new) → Throughout place clones marks does wants (IsWatched spares slot n) old cs rs new run → OnlyLiving old.core → Follows slot n old.core new.core (given here n cs rs)
      follows_run [] [] old new run t w = (same_table slot n old.core.table new.core.table (ap (λ (s : WorldState S J K V). s.core.table) run) t.followed).advances (living_below slot old.core w)
      follows_run [] (r ∷ rs) old new run t w = absurd run
      follows_run (c ∷ cs) [] old new run t w = absurd run
      follows_run (c ∷ cs) (r ∷ rs) old new run t w =
          let mid : WorldState S J K V = run.0 in
          advances_more n (old.core.table slot) (mid.core.table slot) (new.core.table slot) (given_by here n c r) (given here n cs rs)
          (world_follows old c r mid run.1 w t.0 (at_first cs rs mid new run.2 t.1))
          (follows_run cs rs mid new run.2 t.1 (living_step place clones marks does wants grows lives_on old c r mid run.1 w))

  pub replays : (old new : State K V) (given : List ComponentEvent) → Follows slot n old new given → Replays slot n old new given
  replays old new given f = record {
    mask = λ set before i.
        ap (λ es. replay es set i) f.told ∙ ap (λ (p : ℕ → Bool). p i) (replay-append (unread old slot n) f.events set)
        ∙ ap (λ (p : ℕ → Bool). replay f.events p i) (fun_ext before) ∙ sym (f.leads.mask i);
    named = λ i off. f.leads.kept i (or_false _ _ (sym (list_any-append (λ e. eqb (index_at e) i) (unread old slot n) f.events) ∙ sym (ap (is_named i) f.told) ∙ off)).1;
  }
