-- What holds of states that come of one another by steps of the model.
use Rattle.std.proofs.Common.{◌≡◌, ◌∙◌, ℕ, zero, suc, Bool, true, false, Option, Some, None, List, [], ◌∷◌, refl, sym, ap, subst, inl, inr}
use Rattle.entities.specs.declared.entity.Entity.{Entity}
use Rattle.entities.specs.Population.{Population, index_of, lives, born, born_pending}
use Rattle.specs.specs.Slots.Clones.{no_clones}
use Rattle.specs.specs.declared.command.Command.TheVariants.{Register, Insert, Remove, Clear}
use Rattle.specs.specs.declared.command.Reply.TheVariants.{Done, Value}
use Rattle.specs.specs.declared.job.Job.{Job}
use Rattle.specs.specs.declared.job.Job.TheVariants.{Insert as JobInsert, InsertAll, Remove as JobRemove, Mark, Own}
use Rattle.specs.specs.Reading.Advancing.{stays, puts, empties}
use Rattle.specs.specs.World.Dropping.{DropsComponents}
use Rattle.specs.specs.Laws.Evolving.{OnePeopleStep, PeopleSteps, Evolves, ValuesLive}
use Rattle.specs.specs.Reading.Following.{IsFollowed, IsListening, Advances, AllSpare, Spared, Tells}
use Rattle.specs.specs.Laws.Going.{OneStep, StepsBy, ComesOf}
use Rattle.specs.specs.Laws.Living.{birth_kept, deletes_kept, keeps_step, kept_values, lives_born, lives_born_pending, mark_kept, put_within, still_lives, still_lives_pending, table_only, within_becomes}
use Rattle.specs.specs.Slots.Marks.{GivesMarker}
use Rattle.specs.specs.Reading.OneSlot.{KeepsAt, same_table, one_quiet, advances_more, dropped_keeps, inserted_keeps, registered_keeps, removed_keeps, living_below}
use Rattle.specs.specs.Laws.Reached.{OnlyLiving}
use Rattle.specs.specs.World.State.{State}
use Rattle.specs.specs.Slots.Table.{Table}

-- a further step of a population
steps_more : (n : ℕ) (p q r : Population) → PeopleSteps n p q → OnePeopleStep q r → PeopleSteps (suc n) p r
steps_more zero p q r e s = (r, subst (λ x. OnePeopleStep x r) e s, refl)
steps_more (suc n) p q r s t = (s.0, s.1, steps_more n s.0 q r s.2 t)

evolves_more : (p q r : Population) → Evolves p q → OnePeopleStep q r → Evolves p r
evolves_more p q r e s = record { count = suc e.count; steps = steps_more e.count p q r e.steps s }

module _ {K V : Type 0} where
  -- one step of the people, or none
  people_more : (p : Population) (old new : State K V) → OneStep old new → Evolves p old.people → Evolves p new.people
  people_more p old new (inl s) e = evolves_more p old.people new.people e (inl (s.0, s.1.people))
  people_more p old new (inr (inl s)) e = evolves_more p old.people new.people e (inr (inl (s.0, s.1.people)))
  people_more p old new (inr (inr (inl s))) e = evolves_more p old.people new.people e (inr (inr (inl (s.0, s.1.people))))
  people_more p old new (inr (inr (inr (inl s)))) e = evolves_more p old.people new.people e (inr (inr (inr (inl (s.0, s.1.people)))))
  people_more p old new (inr (inr (inr (inr (inl s))))) e = subst (Evolves p) (sym s.1.people) e
  people_more p old new (inr (inr (inr (inr (inr (inl s)))))) e = subst (Evolves p) (sym s.4.people) e
  people_more p old new (inr (inr (inr (inr (inr (inr (inl s))))))) e = subst (Evolves p) (sym s.3.people) e
  people_more p old new (inr (inr (inr (inr (inr (inr (inr (inl s)))))))) e = subst (Evolves p) (sym s.1.people) e
  people_more p old new (inr (inr (inr (inr (inr (inr (inr (inr (inl s))))))))) e = subst (Evolves p) (sym s.1.people) e
  people_more p old new (inr (inr (inr (inr (inr (inr (inr (inr (inr s))))))))) e = subst (Evolves p) (sym s.2.people) e

  grows_by : (n : ℕ) (old new : State K V) → StepsBy n old new → Evolves old.people new.people
  grows_by zero old new e = record { count = 0; steps = ap (λ (s : State K V). s.people) e }
  grows_by (suc n) old new s = people_more old.people s.0 new s.2 (grows_by n old s.0 s.1)

  -- the population changes by steps of its own alone
  pub comes_grows : (old new : State K V) → ComesOf old new → Evolves old.people new.people
  comes_grows old new c = grows_by c.count old new c.steps

  -- a marker is given, whichever may come
  pub any_marker : (Comes : V → Type 0) (p : Population) (old new : Table K V) (slot : K) (e : Entity) (given : Option Bool)
      → GivesMarker Comes p old slot e given new → GivesMarker (λ _. Unit {0}) p old slot e given new
  any_marker Comes p old new slot e None g = g
  any_marker Comes p old new slot e (Some false) g = g
  any_marker Comes p old new slot e (Some true) g = record { column = g.column; registered = g.registered; alive = g.alive; absent = g.absent; value = g.value; comes = tt; put = g.put }

  -- each index with a value still lives where an entity gets a marker, and where components are let go
  pub labels_lives : (slot : K) (e : Entity) (given : Option Bool) (old new : State K V) → new.people ≡ old.people
      → GivesMarker (λ _. Unit {0}) old.people old.table slot e given new.table → OnlyLiving old → OnlyLiving new
  labels_lives slot e None old new same g w = table_only old new same w (rw g.2 w.values)
  labels_lives slot e (Some false) old new same g w = table_only old new same w (rw g.1 w.values)
  labels_lives slot e (Some true) old new same g w =
      table_only old new same w (within_becomes old.table new.table slot _ (lives old.people) g.put w.values
      (put_within g.column.values (index_of e) g.value (lives old.people) g.alive.0 (λ j. w.values slot g.column j g.registered)))

  pub dropped_lives : (es : List Entity) (old new : State K V) → DropsComponents es old new → OnlyLiving old → OnlyLiving new
  dropped_lives es old new s w = table_only old new s.people w (λ slot m i is has. (kept_values _ (old.table slot) (lives old.people) (w.values slot) m i (sym (s.table slot) ∙ is) has).1)

  living_more : (old new : State K V) → OneStep old new → OnlyLiving old → OnlyLiving new
  living_more old new (inl s) w = birth_kept born old new s.0 (λ p i. refl) lives_born still_lives s.1 w
  living_more old new (inr (inl s)) w = birth_kept born_pending old new s.0 (λ p i. refl) lives_born_pending still_lives_pending s.1 w
  living_more old new (inr (inr (inl s))) w = deletes_kept s.0 old new s.1 w
  living_more old new (inr (inr (inr (inl s)))) w = mark_kept old new s.0 s.1 w
  living_more old new (inr (inr (inr (inr (inl s))))) w = keeps_step {S = ℕ} {J = ℕ} (λ _. s.0) no_clones old (Register s.0) Done new s.1 w
  living_more old new (inr (inr (inr (inr (inr (inl s)))))) w = keeps_step {S = ℕ} {J = ℕ} (λ _. s.0) no_clones old (Insert s.1 s.2) (Value s.3) new s.4 w
  living_more old new (inr (inr (inr (inr (inr (inr (inl s))))))) w = keeps_step {S = ℕ} {J = ℕ} (λ _. s.0) no_clones old (Remove s.0 s.1) (Value s.2) new s.3 w
  living_more old new (inr (inr (inr (inr (inr (inr (inr (inl s)))))))) w = keeps_step {S = ℕ} {J = ℕ} (λ _. s.0) no_clones old (Clear s.0) Done new s.1 w
  living_more old new (inr (inr (inr (inr (inr (inr (inr (inr (inl s))))))))) w = dropped_lives s.0 old new s.1 w
  living_more old new (inr (inr (inr (inr (inr (inr (inr (inr (inr s))))))))) w = labels_lives s.0 s.1 s.2.given old new s.2.people s.2.table w

  lives_by : (n : ℕ) (old new : State K V) → StepsBy n old new → OnlyLiving old → OnlyLiving new
  lives_by zero old new e w = subst OnlyLiving (sym e) w
  lives_by (suc n) old new s w = living_more s.0 new s.2 (lives_by n old s.0 s.1 w)

  -- if each index with a value lived, it still does
  pub comes_lives : (old new : State K V) → ComesOf old new → OnlyLiving old → ValuesLive new
  comes_lives old new c w = (lives_by c.count old new c.steps w).values

  module _ (slot : K) (n : ℕ) (here : K → Bool) (tells : Tells here slot) where
    labelled : (s : K) (e : Entity) (given : Option Bool) (p : Population) (old new : Table K V) → GivesMarker (λ _. Unit {0}) p old s e given new
        → IsListening n (old slot) → KeepsAt slot n old new []
    labelled s e None p old new g l = same_table slot n old new g.2 l
    labelled s e (Some false) p old new g l = same_table slot n old new g.1 l
    labelled s e (Some true) p old new g l = one_quiet slot n here tells s old new g.column _ g.registered g.put l (λ same. puts n g.column (index_of e) g.value)

    told_one : (old new : State K V) → OneStep old new → IsFollowed slot n old → KeepsAt slot n old.table new.table []
    told_one old new (inl s) l = same_table slot n old.table new.table s.1.table l
    told_one old new (inr (inl s)) l = same_table slot n old.table new.table s.1.table l
    told_one old new (inr (inr (inl s))) l = dropped_keeps slot n s.0 old.table new.table (s.1.table slot) l
    told_one old new (inr (inr (inr (inl s)))) l = same_table slot n old.table new.table s.1.table l
    told_one old new (inr (inr (inr (inr (inl s))))) l = registered_keeps slot n here tells s.0 old.table new.table (old.table s.0) refl s.1.table l
    told_one old new (inr (inr (inr (inr (inr (inl s)))))) l = inserted_keeps slot n here tells (λ _. s.0) old new s.1 s.2 s.3 s.4 l
    told_one old new (inr (inr (inr (inr (inr (inr (inl s))))))) l = removed_keeps slot n here tells old.people s.0 s.1 s.2 old.table new.table s.3.table l
    told_one old new (inr (inr (inr (inr (inr (inr (inr (inl s)))))))) l =
        one_quiet slot n here tells s.0 old.table new.table s.1.table.column _ s.1.table.registered s.1.table.cleared l (λ same. empties n s.1.table.column)
    told_one old new (inr (inr (inr (inr (inr (inr (inr (inr (inl s))))))))) l = dropped_keeps slot n _ old.table new.table (s.1.table slot) l
    told_one old new (inr (inr (inr (inr (inr (inr (inr (inr (inr s))))))))) l = labelled s.0 s.1 s.2.given old.people old.table new.table s.2.table l

    -- what a reader knows of a state that the first one led to
    record Heard (first s : State K V) : Type 0 where
      followed : IsFollowed slot n s
      living : OnlyLiving first → OnlyLiving s
      follows : OnlyLiving first → Advances n (first.table slot) (s.table slot) []

    told_by : (m : ℕ) (old new : State K V) → StepsBy m old new → IsFollowed slot n old → Heard old new
    told_by zero old new e l = subst (Heard old) (sym e) (record { followed = l; living = λ w. w; follows = λ w. (stays n (old.table slot) l).advances (living_below slot old w) })
    told_by (suc m) old new s l =
        let before = told_by m old s.0 s.1 l in
        let last = told_one s.0 new s.2 before.followed in
        record {
          followed = last.listening;
          living = λ w. living_more s.0 new s.2 (before.living w);
          follows = λ w. advances_more n (old.table slot) (s.0.table slot) (new.table slot) [] [] (before.follows w) (last.advances (living_below slot s.0 (before.living w)));
        }

    -- whatever is queued, where each job of the user's spares each reader
    all_spare : {S J : Type 0} (jobs : List (Job S J K V)) → AllSpare (λ _ _ _. Unit {0}) slot n jobs
    all_spare [] = tt
    all_spare (JobInsert e v ∷ jobs) = (tt, all_spare jobs)
    all_spare (InsertAll vs ∷ jobs) = (tt, all_spare jobs)
    all_spare (JobRemove k e ∷ jobs) = (tt, all_spare jobs)
    all_spare (Mark k e ∷ jobs) = (tt, all_spare jobs)
    all_spare (Own j ∷ jobs) = (tt, all_spare jobs)

    -- a reader goes on to follow its slot
    pub comes_tells : {S J : Type 0} (old new : State K V) (more : List (Job S J K V)) → ComesOf old new → IsFollowed slot n old → Spared (λ _ _ _. Unit {0}) slot n old more new
    comes_tells old new more c l =
        let told = told_by c.count old new c.steps l in
        record { follows = told.follows; followed = told.followed; added = all_spare more }
