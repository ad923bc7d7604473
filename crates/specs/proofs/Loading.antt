-- What a load makes of a population, and where rows and markers change.
use Rattle.std.proofs.Common.{◌≡◌, ℕ, zero, suc, Bool, true, false, ◌||◌, List, [], ◌∷◌, map, refl, sym, ap, ◌∙◌, subst, inl, inr, Some}
use Rattle.std.specs.Prelude.{◌⊎◌, pos}
use Rattle.std.proofs.lemmas.Bool.{cases_eq, eq-eqb, ne_eqb}
use Rattle.entities.specs.declared.entity.Entity.{Entity}
use Rattle.entities.specs.Population.{Population, born_pending, generation_of, index_of, lives}
use Rattle.saveload.specs.Conversion.{Conversion}
use Rattle.saveload.specs.Loads.{Loading, Loads, row_put}
use Rattle.saveload.specs.Naming.{Naming, Makes, MakesMarked, Names, NamesNone, NamesAll}
use Rattle.saveload.specs.Stops.{Partial, RefusesRecord, Stops, StopsNaming}
use Rattle.saveload.specs.declared.entity_data.EntityData.{EntityData}
use Rattle.saveload.specs.declared.error.LoadError.{LoadError}
use Rattle.specs.specs.Laws.Evolving.{Evolves, PeopleSteps}
use Rattle.specs.specs.Laws.Gone.{KeepsGone}
use Rattle.specs.specs.Laws.Keeping.{LoadsAtTheLiving}
use Rattle.specs.specs.Laws.Living.{still_lives_pending}
use Rattle.specs.proofs.Gone.{gone_evolved}

-- the population comes of the other, and who lived lives
record Goes (p q : Population) : Type 0 where
  evolves : Evolves p q
  lives_on : (i : ℕ) → lives p i ≡ true → lives q i ≡ true

pub evolved_gone : (p q : Population) → Evolves p q → KeepsGone p q
evolved_gone p q g e was = gone_evolved g.count p q e g.steps was

then : (n : ℕ) (p mid q : Population) → PeopleSteps n p mid → Evolves mid q → Evolves p q
then zero p mid q same after = subst (λ (r : Population). Evolves r q) same after
then (suc n) p mid q s after = let rest = then n s.0 mid q s.2 after in record { count = suc rest.count; steps = (s.0, s.1, rest.steps) }

goes_self : (p : Population) → Goes p p
goes_self p = record { evolves = record { count = 0; steps = refl }; lives_on = λ i h. h }

goes_both : (p mid q : Population) → Goes p mid → Goes mid q → Goes p q
goes_both p mid q a b = record { evolves = then a.evolves.count p mid q a.evolves.steps b.evolves; lives_on = λ i h. b.lives_on i (a.lives_on i h) }

true_or : (b : Bool) → (b || true) ≡ true
true_or true = refl
true_or false = refl

-- what was just born lives, in its first generation that was not given yet
here : (p : Population) (i : ℕ) → lives (born_pending p i) i ≡ true
here p i = rw (eq-eqb i i refl) (true_or (p.merged i))

-- at each index the rows are the same, or it lives
abbrev At : {X : Type 0} → Population → (ℕ → X) → (ℕ → X) → Type 0
At p f g = (i : ℕ) → (g i ≡ f i) ⊎ (lives p i ≡ true)

at_self : {X : Type 0} (p : Population) (f g : ℕ → X) → g ≡ f → At p f g
at_self p f g same i = inl (ap (λ h. h i) same)

at_both : {X : Type 0} (p q : Population) (f g h : ℕ → X) → Goes p q → At p f g → At q g h → At q f h
at_both p q f g h goes a b i = elim (b i) [
  | inl second ↦ elim (a i) [
    | inl first ↦ inl (second ∙ first)
    | inr on ↦ inr (goes.lives_on i on)
  ]
  | inr on ↦ inr on
]

at_put : {X : Type 0} (p : Population) (f g : ℕ → X) (k : ℕ) (x : X) → lives p k ≡ true → g ≡ row_put f k x → At p f g
at_put p f g k x on is i = elim (cases_eq k i) [
  | inl same ↦ inr (subst (λ n. lives p n ≡ true) same on)
  | inr other ↦ inl (ap (λ h. h i) is ∙ rw (ne_eqb k i other) refl)
]

module _ {I : Type 0} (eq : I → I → Bool) where
  -- naming changes the population, and a marker at a living index alone
  record Named (old new : Naming I) : Type 0 where
    goes : Goes old.people new.people
    markers : At new.people old.markers new.markers

  named_self : (old new : Naming I) → new ≡ old → Named old new
  named_self old new same = record {
    goes = subst (λ (s : Naming I). Goes old.people s.people) (sym same) (goes_self old.people);
    markers = at_self new.people old.markers new.markers (ap (λ (s : Naming I). s.markers) same);
  }

  named_both : (old mid new : Naming I) → Named old mid → Named mid new → Named old new
  named_both old mid new a b = record {
    goes = goes_both old.people mid.people new.people a.goes b.goes;
    markers = at_both mid.people new.people old.markers mid.markers new.markers b.goes a.markers b.markers;
  }

  makes : (old new : Naming I) (id : I) (e : Entity) → Makes eq old id e new → Named old new × (lives new.people (index_of e) ≡ true)
  makes old new id e m =
      let on = subst (λ (p : Population). lives p (index_of e) ≡ true) (sym m.people) (here old.people (index_of e)) in (
        record {
          goes = record {
            evolves = record { count = 1; steps = (new.people, inr (inl (e, record { may = m.may; generation = m.generation; born = m.people })), refl) };
            lives_on = λ i h. subst (λ (p : Population). lives p i ≡ true) (sym m.people) (still_lives_pending old.people (index_of e) i h);
          };
          markers = at_put new.people old.markers new.markers (index_of e) (Some id) on m.markers;
        },
        on,
      )

  -- what an id names lives
  names : (old new : Naming I) (id : I) (e : Entity) → Names eq old id e new → Named old new × (lives new.people (index_of e) ≡ true)
  names old new id e (inl k) = (named_self old new k.1, subst (λ (s : Naming I). lives s.people (index_of e) ≡ true) (sym k.1) k.0.alive.0)
  names old new id e (inr m) = makes old new id e m

  names_all : (ids : List I) (old new : Naming I) → NamesAll eq old ids new → Named old new
  names_all [] old new same = named_self old new same
  names_all (id ∷ ids) old new n = named_both old n.1 new (names old n.1 id n.0 n.2).0 (names_all ids n.1 new n.3)

  -- one that is made and marked at once
  marked : (old new : Naming I) (id : I) → MakesMarked eq old id new → Named old new
  marked old new id m =
      let i = index_of m.entity in
      let mid = born_pending old.people i in
      let generation : generation_of m.entity ≡ pos (mid.births i) = m.generation ∙ rw (eq-eqb i i refl) refl in
      record {
        goes = record {
          evolves = record {
            count = 2;
            steps = (
              mid,
              inr (inl (m.entity, record { may = m.may; generation = m.generation; born = refl })),
              (new.people, inr (inr (inr (inl (m.entity, record { alive = (here old.people i, generation); marked = m.people })))), refl),
            );
          };
          lives_on = λ j h. subst (λ (p : Population). lives p j ≡ true) (sym m.people) (still_lives_pending old.people i j h);
        };
        markers = at_self new.people old.markers new.markers m.markers;
      }

  names_none : (old new : Naming I) (id : I) → NamesNone eq old id new → Named old new
  names_none old new id (inl same) = named_self old new same
  names_none old new id (inr m) = marked old new id m

  stops_naming : (old new : Naming I) (ids : List I) (e : LoadError) → StopsNaming eq old ids e new → Named old new
  stops_naming old new ids e s = named_both old s.mid new (names_all s.before old s.mid s.named) (names_none s.mid new s.id s.none)

  module _ {M V D : Type 0} (id_of : M → I) (c : Conversion M V D) where
    loaded : (old new : Loading I V) → Named old.naming new.naming → At new.naming.people old.rows new.rows → LoadsAtTheLiving old new
    loaded old new n rows = record { evolves = n.goes.evolves; gone = evolved_gone _ _ n.goes.evolves; lives_on = n.goes.lives_on; rows = rows; markers = n.markers }

    loaded_self : (old new : Loading I V) → new ≡ old → LoadsAtTheLiving old new
    loaded_self old new same = loaded old new (named_self old.naming new.naming (ap (λ (s : Loading I V). s.naming) same)) (at_self new.naming.people old.rows new.rows (ap (λ (s : Loading I V). s.rows) same))

    loaded_both : (old mid new : Loading I V) → LoadsAtTheLiving old mid → LoadsAtTheLiving mid new → LoadsAtTheLiving old new
    loaded_both old mid new a b =
        let later : Goes mid.naming.people new.naming.people = record { evolves = b.evolves; lives_on = b.lives_on } in
        record {
          evolves = then a.evolves.count old.naming.people mid.naming.people new.naming.people a.evolves.steps b.evolves;
          gone = λ e was. b.gone e (a.gone e was);
          lives_on = λ i h. b.lives_on i (a.lives_on i h);
          rows = at_both mid.naming.people new.naming.people old.rows mid.rows new.rows later a.rows b.rows;
          markers = at_both mid.naming.people new.naming.people old.naming.markers mid.naming.markers new.naming.markers later a.markers b.markers;
        }

    -- a row is put at an entity that was named, and then others were
    record_put : (old new : Loading I V) (mid : Naming I) (id : I) (ids : List I) (e : Entity) (row : V) → Names eq old.naming id e mid → NamesAll eq mid ids new.naming → new.rows ≡ row_put old.rows (index_of e) row → LoadsAtTheLiving old new
    record_put old new mid id ids e row own mentioned rows =
        let first = names old.naming mid id e own in
        let rest = names_all ids mid new.naming mentioned in
        loaded old new (named_both old.naming mid new.naming first.0 rest) (at_put new.naming.people old.rows new.rows (index_of e) row (rest.goes.lives_on (index_of e) first.1) rows)

    pub loaded_whole : (rs : List (EntityData M D)) (old new : Loading I V) → Loads id_of eq c old rs new → LoadsAtTheLiving old new
    loaded_whole [] old new same = loaded_self old new same
    loaded_whole (r ∷ rs) old new l =
        let one = l.1 in
        loaded_both old l.0 new (record_put old l.0 one.mid (id_of r.marker) (map id_of (c.mentions r.components)) one.entity _ one.own one.mentioned one.rows) (loaded_whole rs l.0 new l.2)

    refuses : (Partly : Partial D V) (old new : Loading I V) (r : EntityData M D) (e : LoadError) → RefusesRecord id_of eq c Partly old r e new → LoadsAtTheLiving old new
    refuses Partly old new r e (inl n) = loaded old new (stops_naming old.naming new.naming _ e n.stops) (at_self new.naming.people old.rows new.rows n.rows)
    refuses Partly old new r e (inr (inl n)) = loaded old new (names old.naming new.naming (id_of r.marker) n.entity n.own).0 (at_self new.naming.people old.rows new.rows n.rows)
    refuses Partly old new r e (inr (inr n)) = record_put old new n.mid (id_of r.marker) (map id_of (c.mentions r.components)) n.entity n.row.mid n.own n.mentioned n.row.rows

    pub loaded_until : (Partly : Partial D V) (rs : List (EntityData M D)) (old new : Loading I V) (e : LoadError) → Stops id_of eq c Partly old rs e new → LoadsAtTheLiving old new
    loaded_until Partly rs old new e s = loaded_both old s.mid new (loaded_whole s.before old s.mid s.loaded) (refuses Partly s.mid new s.refused e s.stopped)
