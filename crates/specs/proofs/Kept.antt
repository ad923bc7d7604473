-- What single calls keep: each index with a value lives, and who is gone stays gone.
use Rattle.std.proofs.Common.{◌≡◌, ℕ, true, List, refl, sym, ap, subst, Option, Some, None, inl, inr}
use Rattle.std.specs.Prelude.{IsSome, MatchOption}
use Rattle.std.proofs.lemmas.Bool.{false≢true, cases_Bool, both_ways}
use Rattle.entities.specs.declared.entity.Entity.{Entity}
use Rattle.entities.specs.Population.{Population, MarkedIfAlive, index_of, lives, born, born_pending}
use Rattle.storages.specs.Life.{is_alive}
use Rattle.specs.specs.Builder.Building.{MarksOne}
use Rattle.specs.specs.Slots.Column.{Column}
use Rattle.specs.specs.World.Dropping.{DropsComponents}
use Rattle.specs.specs.Laws.Evolving.{OnePeopleStep}
use Rattle.specs.specs.Laws.GoingLaws.{any_marker, dropped_lives, labels_lives}
use Rattle.specs.specs.Laws.Gone.{IsGone, KeepsGone}
use Rattle.specs.specs.Laws.Living.{birth_kept, deletes_kept, lives_born, lives_born_pending, mark_kept, put_within, removes_within, still_lives, still_lives_pending, table_only, unchanged, within_becomes, within_register}
use Rattle.specs.specs.Slots.Maps.{no_value}
use Rattle.specs.specs.World.Marking.{HasMarkerThen, GivesMarkerIn}
use Rattle.specs.specs.Slots.Marks.{Markers}
use Rattle.specs.specs.World.People.{Births, Marks}
use Rattle.specs.specs.Laws.Reached.{OnlyLiving, KeepsLiving}
use Rattle.specs.specs.Slots.Registering.{RegistersAs}
use Rattle.specs.specs.World.State.{State, OnPeople, OnTable, Deletes, merged}
use Rattle.specs.specs.Slots.Table.{Table, Becomes, Inserts, Removes, Registers, Clears}
use Rattle.specs.proofs.Going.{on_marked, on_same}
use Rattle.specs.proofs.Gone.{gone_evolved, gone_after_merge}
use Rattle.specs.proofs.Lasting.{merged_kept}
use Rattle.specs.proofs.Values.{alive_fact, alive_true}

-- a step of a population's own
one : (p q : Population) → OnePeopleStep p q → KeepsGone p q
one p q s e was = gone_evolved 1 p q e (q, s, refl) was

module _ {K V : Type 0} (old new : State K V) where
  pub gone_same : new.people ≡ old.people → KeepsGone old.people new.people
  gone_same same e was = subst (λ (p : Population). IsGone p e) (sym same) was

  pub gone_born : (x : Entity) → OnPeople (λ p p'. Births born p x p') old new → KeepsGone old.people new.people
  gone_born x s = one old.people new.people (inl (x, s.people))

  pub gone_pending : (x : Entity) → OnPeople (λ p p'. Births born_pending p x p') old new → KeepsGone old.people new.people
  gone_pending x s = one old.people new.people (inr (inl (x, s.people)))

  pub gone_dead : (es : List Entity) → Deletes es old new → KeepsGone old.people new.people
  gone_dead es s = one old.people new.people (inr (inr (inl (es, s.people))))

  pub gone_marked : (e : Entity) → OnPeople (λ p p'. Marks p e p') old new → KeepsGone old.people new.people
  gone_marked e s = one old.people new.people (inr (inr (inr (inl (e, s.people)))))

  pub living_marked : (e : Entity) → OnPeople (λ p p'. Marks p e p') old new → KeepsLiving old new
  living_marked e s = mark_kept old new e s

  pub gone_left : new ≡ old → KeepsGone old.people new.people
  gone_left same = gone_same (ap (λ (s : State K V). s.people) same)

  pub living_left : new ≡ old → KeepsLiving old new
  living_left same = unchanged old new same

  pub living_born : (x : Entity) → OnPeople (λ p p'. Births born p x p') old new → KeepsLiving old new
  living_born x s = birth_kept born old new x (λ p i. refl) lives_born still_lives s

  pub living_pending : (x : Entity) → OnPeople (λ p p'. Births born_pending p x p') old new → KeepsLiving old new
  living_pending x s = birth_kept born_pending old new x (λ p i. refl) lives_born_pending still_lives_pending s

  pub living_dead : (es : List Entity) → Deletes es old new → KeepsLiving old new
  living_dead es s = deletes_kept es old new s

  pub living_dropped : (es : List Entity) → DropsComponents es old new → KeepsLiving old new
  living_dropped es s = dropped_lives es old new s

  pub living_inserted : (place : V → K) (e : Entity) (value : V) (before : Option V) → Inserts place old.people old.table e value before new.table → new.people ≡ old.people → KeepsLiving old new
  living_inserted place e value before i same w =
      table_only old new same w (within_becomes old.table new.table (place value) _ (lives old.people) i.put w.values
      (put_within i.column.values (index_of e) value (lives old.people) i.alive.0 (λ j. w.values (place value) i.column j i.registered)))

  pub living_removed : (slot : K) (e : Entity) (found : Option V) → Removes old.people old.table slot e found new.table → new.people ≡ old.people → KeepsLiving old new
  living_removed slot e found r same w = table_only old new same w (removes_within old.people old.table new.table slot e found (lives old.people) r w.values)

  pub living_cleared : (slot : K) → OnTable (λ t t'. Clears t slot t') old new → KeepsLiving old new
  living_cleared slot s w = table_only old new s.people w (within_becomes old.table new.table slot _ (lives old.people) s.table.cleared w.values (λ i h. absurd (false≢true h)))

  pub living_registered : (slot : K) → OnTable (λ t t'. Registers t slot t') old new → KeepsLiving old new
  living_registered slot s w = table_only old new s.people w (within_register old.table new.table slot (lives old.people) (old.table slot) refl s.table w.values)

  same_within : new.table ≡ old.table → new.people ≡ old.people → KeepsLiving old new
  same_within table same w = table_only old new same w (subst (λ (t : Table K V). (k : K) (m : Column V) (i : ℕ) → t k ≡ Some m → IsSome (m.values i) → lives old.people i ≡ true) (sym table) w.values)

  begun : (slot : K) (c : Column V) (o : Option (Column V)) → c.values ≡ no_value → new.people ≡ old.people → MatchOption o (Becomes old.table slot c new.table) (λ _. new.table ≡ old.table) → KeepsLiving old new
  begun slot c None none same s w = table_only old new same w (within_becomes old.table new.table slot c (lives old.people) s w.values (λ i h. absurd (false≢true (subst (λ (m : ℕ → Option V). IsSome (m i)) none h))))
  begun slot c (Some d) none same s w = same_within s same w

  pub living_begun : (slot : K) (c : Column V) → c.values ≡ no_value → OnTable (λ t t'. RegistersAs t slot c t') old new → KeepsLiving old new
  living_begun slot c none s = begun slot c (old.table slot) none s.people s.table

  pub living_given : (marks : Markers K V) (slot : K) (e : Entity) (given : Option _) → GivesMarkerIn marks slot e given old new → KeepsLiving old new
  living_given marks slot e given s = labels_lives slot e given old new s.people (any_marker _ old.people old.table new.table slot e given s.table)

  pub living_labelled : (marks : Markers K V) (slot : K) (e : Entity) → HasMarkerThen marks slot e old new → KeepsLiving old new
  living_labelled marks slot e s = living_given marks slot e s.given s.gives

  pub gone_labelled : (marks : Markers K V) (slot : K) (e : Entity) → HasMarkerThen marks slot e old new → KeepsGone old.people new.people
  gone_labelled marks slot e s = gone_same s.gives.people

  -- an entity that is marked, if it is alive
  pub marks_one : (e : Entity) → MarkedIfAlive old.people e new.people → new.table ≡ old.table → new.ids ≡ old.ids → MarksOne e old new
  marks_one e s table ids = elim (cases_Bool (is_alive old.people e)) [
    | inl on ↦
        let marked : OnPeople (λ p p'. Marks p e p') old new = record { people = record { alive = alive_fact old.people e on; marked = s.0 (alive_fact old.people e on) }; table = table; ids = ids } in
        record {
          marks = record { people = s; table = table; ids = ids };
          living = living_marked e marked;
          gone = gone_marked e marked;
          goes_on = on_marked old new e marked;
        }
    | inr off ↦
        let same = s.1 (λ a. both_ways (is_alive old.people e) off (alive_true old.people e a)) in
        record { marks = record { people = s; table = table; ids = ids }; living = same_within table same; gone = gone_same same; goes_on = on_same old new (rw (same, table, ids) refl) }
  ]

  pub living_merged : new ≡ merged old → KeepsLiving old new
  living_merged is w = subst (λ (s : State K V). OnlyLiving s) (sym is) (merged_kept old w)

  pub gone_merging : new ≡ merged old → KeepsGone old.people new.people
  gone_merging is e was = subst (λ (s : State K V). IsGone s.people e) (sym is) (gone_after_merge old.people e was)
