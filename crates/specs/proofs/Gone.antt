-- What died stays dead.
use Rattle.std.proofs.Common.{◌≡◌, ℕ, zero, suc, pos, ◌<◌, Bool, true, false, not, ◌&&◌, ◌||◌, ◌==◌, List, [], ◌∷◌, refl, sym, ap, ◌∙◌, subst, inl, inr, arith}
use Rattle.std.specs.Prelude.{◌⊎◌, nat_abs, slice_index_or}
use Rattle.std.specs.List.{All}
use Rattle.std.proofs.lemmas.Bool.{cases_eq, eq-eqb, ne_eqb, false≢true}
use Rattle.std.proofs.lemmas.List.Elements.{All-map, All-contains_itself}
use Rattle.std.proofs.lemmas.List.Folds.{list_any-from_Any}
use Rattle.hibits.specs.Left.{left, contains-left}
use Rattle.entities.specs.declared.entity.Entity.{Entity}
use Rattle.entities.specs.Population.{Population, IsAlive, index_of, lives, born, born_pending, mark}
use Rattle.entities.specs.Deaths.{has_index, all_dead}
use Rattle.entities.specs.Merges.{merge, the_marked, living_entity}
use Rattle.specs.specs.Slots.Clones.{Clones}
use Rattle.specs.specs.declared.command.Command.{Command}
use Rattle.specs.specs.declared.command.Command.TheVariants.{Register, Create, CreatePending, Delete, DeleteAll, MarkDead, IsAlive as AskAlive, IsLiving as AskLiving, EntityAt, Insert, Get, Remove, Clear, Count as AskCount, Select, Reader, Events, DropReader, Emit}
use Rattle.specs.specs.declared.command.Reply.{Reply}
use Rattle.specs.specs.declared.command.Reply.TheVariants.{Done, Entity as Told, Bool as Yes, Value, Count, Indices, Reader as NewReader, Events as Given, Refused, InsertRefused}
use Rattle.specs.specs.Laws.Evolving.{OnePeopleStep, PeopleSteps}
use Rattle.specs.specs.Laws.Gone.{WasGiven, IsGone}
use Rattle.specs.specs.World.People.{Deaths, the_living}
use Rattle.specs.specs.World.State.{State}
use Rattle.specs.specs.Job.Steps.{CoreStep}

-- at each index there was a birth, or nobody lives who did not
abbrev pub Grows : Population → Population → Type 0
Grows p q = (j : ℕ) → (p.births j < q.births j) ⊎ ((q.births j ≡ p.births j) × (lives q j ≡ true → lives p j ≡ true))

gone : (p : Population) (e : Entity) → WasGiven p e → (IsAlive p e → ⊥) → IsGone p e
gone p e given dead = record { given = given; dead = dead; unmerged = λ m. dead (ap (λ b. b || p.pending (index_of e)) m.0, m.1) }

gone_kept : (p q : Population) (e : Entity) → Grows p q → IsGone p e → IsGone q e
gone_kept p q e grows was =
    let given = was.given in
    let reached = given.reached in
    elim (grows (index_of e)) [
      | inl more ↦
          gone q e (record { number = given.number; generation = given.generation; reached = omega arith })
          (λ a. let same = ap nat_abs (sym given.generation ∙ a.1) in omega arith)
      | inr same ↦
          let births = same.0 in
          gone q e (record { number = given.number; generation = given.generation; reached = omega arith })
          (λ a. was.dead (same.1 a.0, a.1 ∙ ap pos births))
    ]

born_grows : (p : Population) (i : ℕ) → Grows p (born p i)
born_grows p i j = elim (cases_eq j i) [
  | inl same ↦ inl (rw (eq-eqb j i same) (omega arith))
  | inr other ↦ inr (rw (ne_eqb j i other) (refl, λ h. h))
]

pending_grows : (p : Population) (i : ℕ) → Grows p (born_pending p i)
pending_grows p i j = elim (cases_eq j i) [
  | inl same ↦ inl (rw (eq-eqb j i same) (omega arith))
  | inr other ↦ inr (rw (ne_eqb j i other) (refl, λ h. h))
]

dead_grows : (es : List Entity) (p : Population) → Grows p (all_dead es p)
dead_grows es p j = inr (refl, off (p.merged j) (p.pending j) (has_index es j))
  where
    off : (a b d : Bool) → ((a && not d) || (b && not d)) ≡ true → (a || b) ≡ true
    off true b d e = refl
    off false true d e = refl
    off false false d e = e

merge_grows : (p : Population) → Grows p (merge p)
merge_grows p j = inr (refl, first (lives p j) (p.marked j))
  where
    first : (a b : Bool) → ((a && not b) || false) ≡ true → a ≡ true
    first true b e = refl
    first false b e = e

same_grows : (p : Population) → Grows p p
same_grows p j = inr (refl, λ h. h)

pub grown_to : (p q r : Population) (e : Entity) → r ≡ q → Grows p q → IsGone p e → IsGone r e
grown_to p q r e is grows was = subst (λ (x : Population). IsGone x e) (sym is) (gone_kept p q e grows was)

by : {K V : Type 0} (old new : State K V) (e : Entity) (q : Population) → new.people ≡ q → Grows old.people q → IsGone old.people e → IsGone new.people e
by old new e q is grows was = grown_to old.people q new.people e is grows was

-- what a population's own steps leave
one_step : (p q : Population) (e : Entity) → OnePeopleStep p q → IsGone p e → IsGone q e
one_step p q e (inl s) = grown_to p (born p (index_of s.0)) q e s.1.born (born_grows p (index_of s.0))
one_step p q e (inr (inl s)) = grown_to p (born_pending p (index_of s.0)) q e s.1.born (pending_grows p (index_of s.0))
one_step p q e (inr (inr (inl s))) = grown_to p (all_dead s.0 p) q e s.1.dead (dead_grows s.0 p)
one_step p q e (inr (inr (inr (inl s)))) = grown_to p (mark p (index_of s.0)) q e s.1.marked (same_grows p)
one_step p q e (inr (inr (inr (inr is)))) = grown_to p (merge p) q e is (merge_grows p)

pub gone_evolved : (n : ℕ) (p q : Population) (e : Entity) → PeopleSteps n p q → IsGone p e → IsGone q e
gone_evolved zero p q e same was = subst (λ (r : Population). IsGone r e) (sym same) was
gone_evolved (suc n) p q e s was = gone_evolved n s.0 q e s.2 (one_step p s.0 e s.1 was)

-- what a merge leaves
pub gone_after_merge : (p : Population) (e : Entity) → IsGone p e → IsGone (merge p) e
gone_after_merge p e was = gone_kept p (merge p) e (merge_grows p) was

unchanged : {K V : Type 0} (old new : State K V) (e : Entity) → new ≡ old → IsGone old.people e → IsGone new.people e
unchanged old new e same was = subst (λ (r : State _ _). IsGone r.people e) (sym same) was

off : (a b d : Bool) → d ≡ true → ((a && not d) || (b && not d)) ≡ true → ⊥
off true true true is e = false≢true e
off true false true is e = false≢true e
off false true true is e = false≢true e
off false false true is e = false≢true e
off a b false is e = false≢true is

-- each of a list that died at once is gone
pub gone_deleted : (p q : Population) (es : List Entity) → Deaths p es q → All (IsGone q) es
gone_deleted p q es dies k d lt =
    let e = slice_index_or es k d in
    let alive : IsAlive p e = dies.may.0 k d lt in
    let at = All-contains_itself es k d lt in
    let listed : has_index es (index_of e) ≡ true = list_any-from_Any (λ x. x.0 == e.0) es (at.0, e, at.1, at.2, eq-eqb e.0 e.0 refl) in
    rw dies.dead (gone (all_dead es p) e (record { number = p.births e.0; generation = alive.1; reached = omega arith })
    (λ a. off (p.merged e.0) (p.pending e.0) (has_index es e.0) listed a.0))

-- the same of one entity
pub gone_deleted_one : (p q : Population) (e : Entity) → Deaths p (e ∷ []) q → IsGone q e
gone_deleted_one p q e dies = gone_deleted p q (e ∷ []) dies 0 e (omega arith)

unmarked : (a b : Bool) → b ≡ true → ((a && not b) || false) ≡ true → ⊥
unmarked true true is e = false≢true e
unmarked false true is e = false≢true e
unmarked a false is e = false≢true is

-- each that a merge lets die is gone
pub gone_merged : (p q : Population) → q ≡ merge p → All (IsGone q) (the_marked p)
gone_merged p q is = rw is (All-map (IsGone (merge p)) (living_entity p) (left p.marked 0) (λ k d lt.
    let i = slice_index_or (left p.marked 0) k d in
    let marked : p.marked i ≡ true = (contains-left p.marked 0 i (All-contains_itself (left p.marked 0) k d lt)).2 in
    gone (merge p) (living_entity p i) (record { number = p.births i; generation = refl; reached = omega arith })
    (λ a. unmarked (lives p i) (p.marked i) marked a.0)))

pub keeps_step : {S J K V : Type 0} (place : V → K) (clones : Clones K V) (old : State K V) (c : Command S J K V) (r : Reply V) (new : State K V) (e : Entity) → CoreStep place clones old c r new → IsGone old.people e → IsGone new.people e
keeps_step place clones old command (Refused r) new e s w = unchanged old new e s.1 w
keeps_step place clones old (Register slot) Done new e s w = by old new e old.people s.people (same_grows old.people) w
keeps_step place clones old Create (Told x) new e s w = by old new e _ s.people.born (born_grows old.people (index_of x)) w
keeps_step place clones old CreatePending (Told x) new e s w = by old new e _ s.people.born (pending_grows old.people (index_of x)) w
keeps_step place clones old (Delete es) Done new e s w = by old new e _ s.people.dead (dead_grows es.items old.people) w
keeps_step place clones old DeleteAll Done new e s w = by old new e _ s.people.dead (dead_grows (the_living old.people) old.people) w
keeps_step place clones old (MarkDead x) Done new e s w = by old new e (mark old.people (index_of x)) s.people.marked (same_grows old.people) w
keeps_step place clones old (AskAlive x) (Yes b) new e s w = unchanged old new e s.1 w
keeps_step place clones old (AskLiving x) (Yes b) new e s w = unchanged old new e s.1 w
keeps_step place clones old (EntityAt i) (Told x) new e s w = unchanged old new e s.1 w
keeps_step place clones old (Insert x value) (Value before) new e s w = by old new e old.people s.people (same_grows old.people) w
keeps_step place clones old (Insert x value) (InsertRefused r back) new e s w = unchanged old new e s.2 w
keeps_step place clones old (Get slot x) (Value found) new e s w = unchanged old new e s.1 w
keeps_step place clones old (Remove slot x) (Value found) new e s w = by old new e old.people s.people (same_grows old.people) w
keeps_step place clones old (Clear slot) Done new e s w = by old new e old.people s.people (same_grows old.people) w
keeps_step place clones old (AskCount slot) (Count n) new e s w = unchanged old new e s.1 w
keeps_step place clones old (Select x) (Indices is) new e s w = unchanged old new e s.1 w
keeps_step place clones old (Reader slot) (NewReader n) new e s w = by old new e old.people s.people (same_grows old.people) w
keeps_step place clones old (Events slot n) (Given es) new e s w = by old new e old.people s.people (same_grows old.people) w
keeps_step place clones old (DropReader slot n) Done new e s w = by old new e old.people s.people (same_grows old.people) w
keeps_step place clones old (Emit slot on) Done new e s w = by old new e old.people s.people (same_grows old.people) w
keeps_step place clones old command reply new e s w = absurd s
