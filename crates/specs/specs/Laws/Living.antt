-- A step keeps it that each index with a value lives.
use Rattle.std.proofs.Common.{◌≡◌, ℕ, ◌+◌, ◌<◌, Bool, true, false, not, zero, suc, ◌≤◌, ◌^◌, ◌&&◌, ◌||◌, cond, eqb, List, ◌∷◌, refl, sym, ap, ◌∙◌, subst, inl, inr, Option, Some, None, arith}
use Rattle.std.specs.Prelude.{IsSome, is_some, MatchOption, ◌⊎◌}
use Rattle.std.specs.Option.{option_map}
use Rattle.std.proofs.lemmas.Bool.{false≢true, both_ways, cases_Bool, cases_eq, eq-eqb, ne_eqb}
use Rattle.std.proofs.lemmas.Bool.{ltb-true}
use Rattle.std.proofs.lemmas.Option.{same_Some, none-some}
use Rattle.std.specs.Prelude.{map}
use Rattle.hibits.specs.declared.limits.TheConstants.{INDEX_LIMIT}
use Rattle.hibits.specs.Left.{left, passing}
use Rattle.entities.specs.declared.entity.Entity.{Entity}
use Rattle.entities.specs.Population.{index_of, Population, IsAlive, MayBeBorn, lives, born, born_pending, one_birth, is_free}
use Rattle.entities.specs.Deaths.{has_index, all_dead}
use Rattle.entities.specs.Merges.{the_marked, merge, living_entity}
use Rattle.specs.specs.Slots.Clones.{Clones}
use Rattle.specs.specs.Slots.Maps.{Map, put, without_one}
use Rattle.specs.specs.Slots.Column.{Column, without_values}
use Rattle.specs.specs.declared.command.Command.{Command}
use Rattle.specs.specs.declared.command.Command.TheVariants.{Register, Create, CreatePending, Delete, DeleteAll, MarkDead, IsAlive as AskAlive, IsLiving as AskLiving, EntityAt, Insert, Get, Remove, Clear, Count as AskCount, Select, Reader, Events, DropReader, Emit}
use Rattle.specs.specs.declared.command.Reply.{Reply}
use Rattle.specs.specs.declared.command.Reply.TheVariants.{Done, Entity as Told, Bool as Yes, Value, Count, Indices, Reader as NewReader, Events as Given, Refused, InsertRefused}
use Rattle.specs.specs.Slots.Table.{Table, Becomes, Begins, Removes}
use Rattle.storages.specs.Channel.{Channel}
use Rattle.specs.specs.Slots.Readers.{Rechannels}
use Rattle.specs.specs.World.People.{Births, Marks, the_living}
use Rattle.specs.specs.World.State.{State, OnPeople, Deletes}
use Rattle.specs.specs.Job.Steps.{CoreStep}
use Rattle.specs.specs.Laws.Reached.{IsNew, OnlyLiving}

-- a table's values are at indices of a set
abbrev pub Within : {K V : Type 0} → Table K V → (ℕ → Bool) → Type 0
Within {K} {V} t living = (slot : K) (c : Column V) (i : ℕ) → t slot ≡ Some c → IsSome (c.values i) → living i ≡ true

-- the one map that changes has its values within the set too
pub within_becomes : {K V : Type 0} (old new : Table K V) (slot : K) (m : Column V) (living : ℕ → Bool) → Becomes old slot m new → Within old living
    → ((i : ℕ) → IsSome (m.values i) → living i ≡ true) → Within new living
within_becomes {K} old new slot m living b w here s m' i e has = elim (cases_Bool (living i)) [
  | inl t ↦ t
  | inr f ↦
      let apart : (s ≡ slot → ⊥) = λ (same : s ≡ slot). both_ways (living i) f (here i (subst (λ (n : Column _). IsSome (n.values i)) (same_Some m' m (sym e ∙ ap new same ∙ b.here)) has)) in
      absurd (both_ways (living i) f (w s m' i (sym (b.others s apart) ∙ e) has))
]

pub within_register : {K V : Type 0} (old new : Table K V) (slot : K) (living : ℕ → Bool) (o : Option (Column V)) → o ≡ old slot
    → MatchOption o (Begins old slot new) (λ _. new ≡ old) → Within old living → Within new living
within_register old new slot living None e r w = within_becomes old new slot r.column living r.becomes w (λ i h. absurd (false≢true (subst (λ (n : Map _). IsSome (n i)) r.fresh.values h)))
within_register old new slot living (Some m) e r w = subst (λ t. Within t living) (sym r) w

-- a change of a channel leaves the values
rechannels_within : {K V : Type 0} (old new : Table K V) (slot : K) {says : Channel → Type 0} {change : Channel → Channel} (living : ℕ → Bool)
    → Rechannels old slot says change new → Within old living → Within new living
rechannels_within old new slot living r w = within_becomes old new slot _ living r.becomes w (λ i. w slot r.column i r.registered)

pub put_within : {V : Type 0} (m : Map V) (i : ℕ) (v : V) (living : ℕ → Bool) → living i ≡ true → ((j : ℕ) → IsSome (m j) → living j ≡ true) → (j : ℕ) → IsSome (put m i v j) → living j ≡ true
put_within m i v living alive w j = elim (cases_eq i j) [
  | inl s ↦ λ _. ap living (sym s) ∙ alive
  | inr d ↦ rw (ne_eqb i j d) (w j)
]

without_one_within : {V : Type 0} (m : Map V) (i : ℕ) (living : ℕ → Bool) → ((j : ℕ) → IsSome (m j) → living j ≡ true) → (j : ℕ) → IsSome (without_one m i j) → living j ≡ true
without_one_within m i living w j = elim (cases_eq i j) [
  | inl s ↦ rw (eq-eqb i j s) (λ h. absurd (false≢true h))
  | inr d ↦ rw (ne_eqb i j d) (w j)
]

pub removes_within : {K V : Type 0} (p : Population) (old new : Table K V) (slot : K) (e : Entity) (found : Option V) (living : ℕ → Bool)
    → Removes p old slot e found new → Within old living → Within new living
removes_within p old new slot e found living r w s m i is has = elim (cases_Bool (living i)) [
  | inl t ↦ t
  | inr f ↦
      let dead : (IsAlive p e → ⊥) = λ a. both_ways (living i) f
      (within_becomes old new slot _ living (r.alive a).1 w (without_one_within r.column.values (index_of e) living (λ j. w slot r.column j r.registered)) s m i is has) in
      absurd (both_ways (living i) f (w s m i (sym (ap (λ (t : Table _ _). t s) (r.dead dead).1) ∙ is) has))
]

-- what is kept of a map has no value at an index of the list
pub kept_values : {V : Type 0} (es : List Entity) (o : Option (Column V)) (living : ℕ → Bool)
    → ((m : Column V) (i : ℕ) → o ≡ Some m → IsSome (m.values i) → living i ≡ true) → (m : Column V) (i : ℕ) → option_map (without_values es) o ≡ Some m
    → IsSome (m.values i) → (has_index es i ≡ false) × (living i ≡ true)
kept_values es None living w m i e has = absurd (none-some m e)
kept_values {V} es (Some n) living w m i e has =
    elim (has_index es i) as (λ b. is_some (cond b None (n.values i)) ≡ true → (b ≡ false) × (living i ≡ true)) [
      | true ↦ λ h. absurd (false≢true h)
      | false ↦ λ h. (refl, w n i refl h)
    ] (subst (λ (k : Column V). is_some (k.values i) ≡ true) (sym (same_Some (without_values es n) m e)) has)

true_or : (b : Bool) → (b || true) ≡ true
true_or true = refl
true_or false = refl

second_true : (a b c : Bool) → (a && (b && c)) ≡ true → b ≡ true
second_true true true c e = refl
second_true true false c e = e
second_true false b c e = absurd (false≢true e)

born_free : (p : Population) (i : ℕ) → is_free p i ≡ true → 0 < p.births i
born_free p i e = ltb-true 0 (p.births i) (second_true _ _ _ e)

-- a born index is below the limit, and a living one was born
born_below : (p : Population) (i : ℕ) → ((j : ℕ) → 0 < p.births j → j < INDEX_LIMIT) → MayBeBorn p i → (j : ℕ) → 0 < one_birth p.births i j → j < INDEX_LIMIT
born_below p i below may j = elim (cases_eq j i) [
  | inl same ↦ λ _. subst (λ k. k < INDEX_LIMIT) (sym same) (elim may [ inl free ↦ below i (born_free p i free) | inr unused ↦ unused.2 ])
  | inr other ↦ rw (ne_eqb j i other) (below j)
]

-- a birth leaves what holds of a population
birth_born : (p : Population) (i : ℕ) (given : ℕ → Bool) → ((j : ℕ) → lives p j ≡ true → 0 < p.births j)
    → ((j : ℕ) → given j ≡ true → (j ≡ i) ⊎ (lives p j ≡ true)) → (j : ℕ) → given j ≡ true → 0 < one_birth p.births i j
birth_born p i given born was j h = elim (cases_eq j i) [
  | inl same ↦ rw (eq-eqb j i same) (omega arith)
  | inr other ↦ rw (ne_eqb j i other) (born j (elim (was j h) [ inl same ↦ absurd (other same) | inr l ↦ l ]))
]

-- who lives after a birth at once, and after a pending one
pub lives_born : (p : Population) (i j : ℕ) → lives (born p i) j ≡ true → (j ≡ i) ⊎ (lives p j ≡ true)
lives_born p i j h = elim (cases_eq j i) [
  | inl same ↦ inl same
  | inr other ↦ inr (rw (ne_eqb j i other) at h)
]

pub lives_born_pending : (p : Population) (i j : ℕ) → lives (born_pending p i) j ≡ true → (j ≡ i) ⊎ (lives p j ≡ true)
lives_born_pending p i j h = elim (cases_eq j i) [
  | inl same ↦ inl same
  | inr other ↦ inr (rw (ne_eqb j i other) at h)
]

pub still_lives : (p : Population) (i j : ℕ) → lives p j ≡ true → lives (born p i) j ≡ true
still_lives p i j h = elim (eqb j i) as (λ b. ((b || p.merged j) || p.pending j) ≡ true) [ true ↦ refl | false ↦ h ]

pub still_lives_pending : (p : Population) (i j : ℕ) → lives p j ≡ true → lives (born_pending p i) j ≡ true
still_lives_pending p i j h = elim (eqb j i) as (λ b. (p.merged j || (b || p.pending j)) ≡ true) [ true ↦ true_or (p.merged j) | false ↦ h ]

-- who lives after a death lived before, and is not of the list
dead_lives : (p : Population) (es : List Entity) (j : ℕ) → lives (all_dead es p) j ≡ true → lives p j ≡ true
dead_lives p es j = elim (has_index es j) as (λ b. ((p.merged j && not b) || (p.pending j && not b)) ≡ true → (p.merged j || p.pending j) ≡ true) [
  | true ↦ both_off (p.merged j) (p.pending j)
  | false ↦ both_on (p.merged j) (p.pending j)
]
  where
    both_off : (a b : Bool) → ((a && false) || (b && false)) ≡ true → (a || b) ≡ true
    both_off true b e = refl
    both_off false true e = refl
    both_off false false e = e

    both_on : (a b : Bool) → ((a && true) || (b && true)) ≡ true → (a || b) ≡ true
    both_on true b e = refl
    both_on false true e = refl
    both_on false false e = e

lives_kept : (p : Population) (es : List Entity) (j : ℕ) → has_index es j ≡ false → lives p j ≡ true → lives (all_dead es p) j ≡ true
lives_kept p es j off l = rw off (both (p.merged j) (p.pending j) l)
  where
    both : (a b : Bool) → (a || b) ≡ true → ((a && true) || (b && true)) ≡ true
    both true b e = refl
    both false true e = refl
    both false false e = e

-- the marked index is of the list of the marked
passing_has : (q p : Population) (n a i : ℕ) → a ≤ i → i < a + n → p.marked i ≡ true → has_index (map (living_entity q) (passing p.marked a n)) i ≡ true
unfolding passing
passing_has q p zero a i ge lt e = absurd (omega arith)
passing_has q p (suc n) a i ge lt e = elim (cases_eq a i) [
  | inl same ↦ rw (ap p.marked same ∙ e) (rw (eq-eqb a i same) refl)
  | inr other ↦
      let rest = passing_has q p n (suc a) i (omega (arith, other)) (omega arith) e in
      elim (p.marked a) as (λ b. has_index (map (living_entity q) (cond b (a ∷ passing p.marked (suc a) n) (passing p.marked (suc a) n))) i ≡ true) [
        | true ↦ rw (ne_eqb a i other) rest
        | false ↦ rest
      ]
]

marked_listed : (p : Population) (i : ℕ) → i < INDEX_LIMIT → p.marked i ≡ true → has_index (the_marked p) i ≡ true
unfolding left
marked_listed p i lt e = passing_has p p INDEX_LIMIT 0 i (omega arith) (omega arith) e

lives_merged : (p : Population) (i : ℕ) → lives p i ≡ true → p.marked i ≡ false → lives (merge p) i ≡ true
lives_merged p i l off = rw (l, off) refl

merged_lives : (p : Population) (i : ℕ) → lives (merge p) i ≡ true → lives p i ≡ true
merged_lives p i = first (lives p i) (p.marked i)
  where
    first : (a b : Bool) → ((a && not b) || false) ≡ true → a ≡ true
    first true b e = refl
    first false b e = e

pub unchanged : {K V : Type 0} (old new : State K V) → new ≡ old → OnlyLiving old → OnlyLiving new
unchanged old new same w = subst OnlyLiving (sym same) w

pub table_only : {K V : Type 0} (old new : State K V) → new.people ≡ old.people → OnlyLiving old → Within new.table (lives old.people) → OnlyLiving new
table_only old new same w within = record {
  values = rw same within;
  born = rw same w.born;
  below = rw same w.below;
}

pub birth_kept : {K V : Type 0} (give : Population → ℕ → Population) (old new : State K V) (e : Entity) → ((p : Population) (i : ℕ) → (give p i).births ≡ one_birth p.births i)
    → ((p : Population) (i j : ℕ) → lives (give p i) j ≡ true → (j ≡ i) ⊎ (lives p j ≡ true)) → ((p : Population) (i j : ℕ) → lives p j ≡ true → lives (give p i) j ≡ true)
    → OnPeople (λ p p'. Births give p e p') old new → OnlyLiving old → OnlyLiving new
birth_kept give old new e births was still s w = record {
  values = rw (s.table, s.people.born) (λ slot m i is has. still old.people (index_of e) i (w.values slot m i is has));
  born = rw s.people.born (λ i h. rw (births old.people (index_of e)) (birth_born old.people (index_of e) (lives (give old.people (index_of e))) w.born (was old.people (index_of e)) i h));
  below = rw (s.people.born, births old.people (index_of e)) (born_below old.people (index_of e) w.below s.people.may);
}

pub deletes_kept : {K V : Type 0} (es : List Entity) (old new : State K V) → Deletes es old new → OnlyLiving old → OnlyLiving new
deletes_kept es old new s w = record {
  values = rw s.people.dead (λ slot m i is has.
      let kept = kept_values es (old.table slot) (lives old.people) (w.values slot) m i (sym (s.table slot) ∙ is) has in
      lives_kept old.people es i kept.0 kept.1);
  born = rw s.people.dead (λ i h. w.born i (dead_lives old.people es i h));
  below = rw s.people.dead w.below;
}

pub maintains_kept : {K V : Type 0} (old new : State K V) (people : new.people ≡ merge old.people)
    → ((s : K) → new.table s ≡ option_map (without_values (the_marked old.people)) (old.table s)) → OnlyLiving old → OnlyLiving new
maintains_kept old new people table w = record {
  values = rw people (λ slot m i is has.
      let kept = kept_values (the_marked old.people) (old.table slot) (lives old.people) (w.values slot) m i (sym (table slot) ∙ is) has in
      let below : i < INDEX_LIMIT = w.below i (w.born i kept.1) in
      elim (cases_Bool (old.people.marked i)) [
        | inl on ↦ absurd (both_ways _ kept.0 (marked_listed old.people i below on))
        | inr off ↦ lives_merged old.people i kept.1 off
      ]);
  born = rw people (λ i h. w.born i (merged_lives old.people i h));
  below = rw people w.below;
}

pub mark_kept : {K V : Type 0} (old new : State K V) (e : Entity) → OnPeople (λ p p'. Marks p e p') old new → OnlyLiving old → OnlyLiving new
mark_kept old new e s w = record {
  values = rw (s.table, s.people.marked) w.values;
  born = rw s.people.marked w.born;
  below = rw s.people.marked w.below;
}

pub keeps_step : {S J K V : Type 0} (place : V → K) (clones : Clones K V) (old : State K V) (c : Command S J K V) (r : Reply V) (new : State K V)
    → CoreStep place clones old c r new → OnlyLiving old → OnlyLiving new
keeps_step place clones old command (Refused r) new s w = unchanged old new s.1 w
keeps_step place clones old (Register slot) Done new s w = table_only old new s.people w (within_register old.table new.table slot (lives old.people) (old.table slot) refl s.table w.values)
keeps_step place clones old Create (Told e) new s w = birth_kept born old new e (λ p i. refl) lives_born still_lives s w
keeps_step place clones old CreatePending (Told e) new s w = birth_kept born_pending old new e (λ p i. refl) lives_born_pending still_lives_pending s w
keeps_step place clones old (Delete es) Done new s w = deletes_kept es.items old new s w
keeps_step place clones old DeleteAll Done new s w = deletes_kept (the_living old.people) old new s w
keeps_step place clones old (MarkDead e) Done new s w = mark_kept old new e s w
keeps_step place clones old (AskAlive e) (Yes b) new s w = unchanged old new s.1 w
keeps_step place clones old (AskLiving e) (Yes b) new s w = unchanged old new s.1 w
keeps_step place clones old (EntityAt i) (Told e) new s w = unchanged old new s.1 w
keeps_step place clones old (Insert e value) (Value before) new s w =
    table_only old new s.people w (within_becomes old.table new.table (place value) _ (lives old.people) s.table.put w.values
    (put_within s.table.column.values (index_of e) value (lives old.people) s.table.alive.0 (λ j. w.values (place value) s.table.column j s.table.registered)))
keeps_step place clones old (Insert e value) (InsertRefused r back) new s w = unchanged old new s.2 w
keeps_step place clones old (Get slot e) (Value found) new s w = unchanged old new s.1 w
keeps_step place clones old (Remove slot e) (Value found) new s w = table_only old new s.people w (removes_within old.people old.table new.table slot e found (lives old.people) s.table w.values)
keeps_step place clones old (Clear slot) Done new s w = table_only old new s.people w
    (within_becomes old.table new.table slot _ (lives old.people) s.table.cleared w.values (λ i h. absurd (false≢true h)))
keeps_step place clones old (AskCount slot) (Count n) new s w = unchanged old new s.1 w
keeps_step place clones old (Select x) (Indices is) new s w = unchanged old new s.1 w
keeps_step place clones old (Reader slot) (NewReader n) new s w = table_only old new s.people w (rechannels_within old.table new.table slot (lives old.people) s.table w.values)
keeps_step place clones old (Events slot n) (Given es) new s w = table_only old new s.people w (rechannels_within old.table new.table slot (lives old.people) s.table w.values)
keeps_step place clones old (DropReader slot n) Done new s w = table_only old new s.people w (rechannels_within old.table new.table slot (lives old.people) s.table w.values)
keeps_step place clones old (Emit slot on) Done new s w = table_only old new s.people w (rechannels_within old.table new.table slot (lives old.people) s.table w.values)
keeps_step place clones old command reply new s w = absurd s

-- nobody lives who was not born, and no index has a value
pub begins : {K V : Type 0} (s : State K V) → IsNew s → OnlyLiving s
begins s new = record {
  values = λ slot m i is has. absurd (false≢true (sym (ap is_some (new.values slot m i is)) ∙ has));
  born = rw new.people (λ i h. absurd (false≢true h));
  below = rw new.people (λ i h. absurd (omega arith));
}
