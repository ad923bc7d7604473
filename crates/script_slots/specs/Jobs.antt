-- What a script's own jobs do.
use Rattle.std.specs.Prelude.{◌≡◌, ◌⊎◌, ℕ, List, [], ◌∷◌}
use Rattle.std.proofs.Common.{inl, inr, ap, sym, subst}
use Rattle.entities.specs.declared.entity.Entity.{Entity}
use Rattle.entities.specs.Population.{born_pending}
use Rattle.specs.specs.declared.job.Job.{Job}
use Rattle.specs.specs.declared.job.Job.TheVariants.{Own}
use Rattle.specs.specs.Laws.Evolving.{Evolves, ValuesLive}
use Rattle.specs.specs.Reading.Following.{IsFollowed, Spared, Each}
use Rattle.specs.specs.Laws.Lawful.{still_grows, still_lives, still_tells, pending_grows, pending_lives}
use Rattle.specs.specs.World.People.{Births, BirthWantsMemory, IsFull}
use Rattle.specs.specs.Laws.Reached.{OnlyLiving}
use Rattle.specs.specs.World.State.{State, OnPeople}
use Rattle.script_slots.specs.declared.script_job.ScriptJob.{ScriptJob}
use Rattle.script_slots.specs.declared.script_job.ScriptJob.TheVariants.{Again, Create}

module _ {K V : Type 0} where
  -- a pending birth, or nothing where no index is left
  abbrev pub MayRaise : State K V → State K V → Type 0
  MayRaise old new = ((e : Entity) × OnPeople (λ p p'. Births born_pending p e p') old new) ⊎ (IsFull old.people × (new ≡ old))

  raise_grows : (old new : State K V) → MayRaise old new → Evolves old.people new.people
  raise_grows old new (inl s) = pending_grows old new s.0 s.1
  raise_grows old new (inr s) = still_grows old new s.1

  raise_lives : (place : V → K) (old new : State K V) → MayRaise old new → OnlyLiving old → ValuesLive new
  raise_lives place old new (inl s) w = (pending_lives place old new s.0 s.1 w).values
  raise_lives place old new (inr s) w = still_lives old new s.1 w

  raise_table : (old new : State K V) → MayRaise old new → new.table ≡ old.table
  raise_table old new (inl s) = s.1.table
  raise_table old new (inr s) = ap (λ (s : State K V). s.table) s.1

-- one may find no memory for the queue, the other only where a birth wants some
abbrev pub Wants : {K V : Type 0} → ScriptJob → State K V → Type 0
Wants Again s = Unit {0}
Wants Create s = BirthWantsMemory s.people

-- neither touches a channel
abbrev pub Spares : {K : Type 0} → ScriptJob → K → ℕ → Type 0
Spares j slot n = Unit {0}

module _ {S K V : Type 0} where
  -- one queues itself again, the other makes an entity
  abbrev pub Does : ScriptJob → State K V → List (Job S ScriptJob K V) → State K V → Type 0
  Does Again old more new = (more ≡ Own Again ∷ []) × (new ≡ old)
  Does Create old more new = (more ≡ []) × MayRaise old new

  pub grows : (j : ScriptJob) (old new : State K V) (more : List (Job S ScriptJob K V)) → Does j old more new → Evolves old.people new.people
  grows Again old new more s = still_grows old new s.1
  grows Create old new more s = raise_grows old new s.1

  pub lives_on : (place : V → K) (j : ScriptJob) (old new : State K V) (more : List (Job S ScriptJob K V)) → Does j old more new → OnlyLiving old → ValuesLive new
  lives_on place Again old new more s w = still_lives old new s.1 w
  lives_on place Create old new more s w = raise_lives place old new s.1 w

  pub tells : (j : ScriptJob) (slot : K) (n : ℕ) (old new : State K V) (more : List (Job S ScriptJob K V)) → Does j old more new → IsFollowed slot n old → Spared Spares slot n old more new
  tells Again slot n old new more s l = still_tells Spares slot n old new more (ap (λ (s : State K V). s.table) s.1) (subst (Each _) (sym s.0) (tt, tt)) l
  tells Create slot n old new more s l = still_tells Spares slot n old new more (raise_table old new s.1) (subst (Each _) (sym s.0) tt) l
