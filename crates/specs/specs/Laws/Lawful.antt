-- Lemmas by which a job of a user's meets its laws.
use Rattle.std.proofs.Common.{◌≡◌, ℕ, Bool, Option, List, [], refl, sym, ap, subst, inl, inr, append-nil}
use Rattle.entities.specs.declared.entity.Entity.{Entity}
use Rattle.entities.specs.Population.{born, born_pending}
use Rattle.specs.specs.Slots.Clones.{no_clones}
use Rattle.specs.specs.declared.command.Command.TheVariants.{Create, CreatePending}
use Rattle.specs.specs.declared.command.Reply.TheVariants.{Entity as Told}
use Rattle.specs.specs.declared.job.Job.{Job}
use Rattle.specs.specs.Laws.Evolving.{Evolves, ValuesLive}
use Rattle.specs.specs.Reading.Following.{IsFollowed, IsListening, AllSpare, Spared, Tells, unread_at}
use Rattle.specs.specs.Laws.Living.{keeps_step}
use Rattle.specs.specs.World.People.{Births}
use Rattle.specs.specs.Laws.Reached.{OnlyLiving}
use Rattle.specs.specs.World.State.{State, OnPeople, OnTable}
use Rattle.specs.specs.Slots.Table.{Inserts}
use Rattle.specs.specs.Reading.OneSlot.{inserted_keeps, living_below}

module _ {K V : Type 0} where
  -- nothing changed
  pub still_grows : (old new : State K V) → new ≡ old → Evolves old.people new.people
  still_grows old new same = record { count = 0; steps = ap (λ (s : State K V). s.people) same }

  pub still_lives : (old new : State K V) → new ≡ old → OnlyLiving old → ValuesLive new
  still_lives old new same w = subst (λ (s : State K V). ValuesLive s) (sym same) w.values

  -- a birth, at once and pending
  pub born_grows : (old new : State K V) (e : Entity) → OnPeople (λ p p'. Births born p e p') old new → Evolves old.people new.people
  born_grows old new e s = record { count = 1; steps = (new.people, inl (e, s.people), refl) }

  pub born_lives : (place : V → K) (old new : State K V) (e : Entity) → OnPeople (λ p p'. Births born p e p') old new → OnlyLiving old → OnlyLiving new
  born_lives place old new e s w = keeps_step {S = ℕ} {J = ℕ} place no_clones old Create (Told e) new s w

  pub pending_grows : (old new : State K V) (e : Entity) → OnPeople (λ p p'. Births born_pending p e p') old new → Evolves old.people new.people
  pending_grows old new e s = record { count = 1; steps = (new.people, inr (inl (e, s.people)), refl) }

  pub pending_lives : (place : V → K) (old new : State K V) (e : Entity) → OnPeople (λ p p'. Births born_pending p e p') old new → OnlyLiving old → OnlyLiving new
  pending_lives place old new e s w = keeps_step {S = ℕ} {J = ℕ} place no_clones old CreatePending (Told e) new s w

  -- no component changed, and no reader and no emission
  pub still_tells : {S J : Type 0} (spares : J → K → ℕ → Type 0) (slot : K) (n : ℕ) (old new : State K V) (more : List (Job S J K V)) → new.table ≡ old.table
      → AllSpare spares slot n more → IsFollowed slot n old → Spared spares slot n old more new
  still_tells spares slot n old new more same added l = record {
    follows = λ w. rw same (record { events = []; leads = record { mask = λ i. refl; kept = λ i e. refl }; told = sym (append-nil (unread_at n (old.table slot))) });
    followed = subst (λ t. IsListening n (t slot)) (sym same) l;
    added = added;
  }

  -- nothing is queued, and nothing changes
  abbrev pub DoesNothing : {S J : Type 0} → State K V → List (Job S J K V) → State K V → Type 0
  DoesNothing old more new = (more ≡ []) × (new ≡ old)

  pub nothing_tells : {S J : Type 0} (spares : J → K → ℕ → Type 0) (slot : K) (n : ℕ) (old new : State K V) (more : List (Job S J K V))
      → DoesNothing old more new → IsFollowed slot n old → Spared spares slot n old more new
  nothing_tells spares slot n old new more s l = still_tells spares slot n old new more (ap (λ (s : State K V). s.table) s.1) (subst (AllSpare spares slot n) (sym s.0) tt) l

-- An entity got a value: who follows the slot was told, and follows it still, and so does who follows another slot. `here` tells the slot from others.
pub inserted_tells : {S J K V : Type 0} (spares : J → K → ℕ → Type 0) (slot : K) (n : ℕ) (here : K → Bool) → Tells here slot
    → (place : V → K) (old new : State K V) (e : Entity) (value : V) (before : Option V) (more : List (Job S J K V))
    → OnTable (λ t t'. Inserts place old.people t e value before t') old new → AllSpare spares slot n more → IsFollowed slot n old → Spared spares slot n old more new
inserted_tells spares slot n here tells place old new e value before more s added l =
    let keeps = inserted_keeps slot n here tells place old new e value before s l in
    record { follows = λ w. keeps.advances (living_below slot old w); followed = keeps.listening; added = added }
