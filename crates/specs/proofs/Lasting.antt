-- What holds of a state and is kept by runs: each index with a value lives, and what died stays dead.
use Rattle.std.proofs.Common.{ℕ, zero, suc, Bool, inl, inr, List, [], ◌∷◌, refl, sym, subst, Option, None}
use Rattle.std.proofs.lemmas.Option.{none-some}
use Rattle.entities.specs.declared.entity.Entity.{Entity}
use Rattle.entities.specs.Population.{Population}
use Rattle.specs.specs.Slots.Clones.{Clones, no_clones}
use Rattle.specs.specs.declared.command.Command.{Command}
use Rattle.specs.specs.declared.command.Command.TheVariants.{Create, CreatePending, MarkDead, Insert as AskInsert, Remove as AskRemove, Queue, Maintain}
use Rattle.specs.specs.declared.command.Maintained.{Maintained}
use Rattle.specs.specs.declared.command.Reply.{Reply}
use Rattle.specs.specs.declared.command.Reply.TheVariants.{Done, Entity as Told, Value, Maintained as Kept}
use Rattle.specs.specs.declared.job.Job.{Job}
use Rattle.specs.specs.Laws.Evolving.{OnePeopleStep, PeopleSteps, Evolves, ValuesLive}
use Rattle.specs.specs.Laws.Gone.{IsGone}
use Rattle.specs.specs.Slots.Ids.{Ids}
use Rattle.specs.specs.Laws.Reached.{OnlyLiving}
use Rattle.specs.specs.World.State.{State, OnTable, merged}
use Rattle.specs.specs.Job.Steps.{WorldState, CoreStep, Maintains, Step, Run}
use Rattle.specs.specs.Slots.Table.{Inserts, Removes}
use Rattle.specs.specs.Job.Jobs.{RunsJobs}
use Rattle.specs.proofs.Carrying.{carried, each_unit}
use Rattle.specs.proofs.Gone.{gone_evolved, gone_after_merge, keeps_step as keeps_gone}
use Rattle.specs.specs.Laws.Living.{keeps_step, deletes_kept, maintains_kept}
use Rattle.specs.specs.Slots.Marks.{Markers}

-- the population alone, over no storage
abbrev bare : Population → State ℕ ℕ
bare p = record { people = p; table = λ _. None; ids = λ _. None }

one_step : (p q : Population) → OnePeopleStep p q → OnlyLiving (bare p) → OnlyLiving (bare q)
one_step p q (inl s) = keeps_step {S = ℕ} {J = ℕ} (λ v. v) no_clones (bare p) Create (Told s.0) (bare q) (record { people = s.1; table = refl; ids = refl })
one_step p q (inr (inl s)) = keeps_step {S = ℕ} {J = ℕ} (λ v. v) no_clones (bare p) CreatePending (Told s.0) (bare q) (record { people = s.1; table = refl; ids = refl })
one_step p q (inr (inr (inl s))) = deletes_kept s.0 (bare p) (bare q) (record { people = s.1; table = λ slot. refl; ids = refl })
one_step p q (inr (inr (inr (inl s)))) = keeps_step {S = ℕ} {J = ℕ} (λ v. v) no_clones (bare p) (MarkDead s.0) Done (bare q) (record { people = s.1; table = refl; ids = refl })
one_step p q (inr (inr (inr (inr e)))) = maintains_kept (bare p) (bare q) e (λ s. refl)

steps : (n : ℕ) (p q : Population) → PeopleSteps n p q → OnlyLiving (bare p) → OnlyLiving (bare q)
steps zero p q e w = subst (λ r. OnlyLiving (bare r)) (sym e) w
steps (suc n) p q s w = steps n s.0 q s.2 (one_step p s.0 s.1 w)

pub grown : {K V : Type 0} (old new : State K V) → Evolves old.people new.people → OnlyLiving old → ValuesLive new → OnlyLiving new
grown old new g w values =
    let last = steps g.count old.people new.people g.steps (record { values = λ slot m i is. absurd (none-some m is); born = w.born; below = w.below }) in
    record { values = values; born = last.born; below = last.below }

pub merged_kept : {K V : Type 0} (old : State K V) → OnlyLiving old → OnlyLiving (merged old)
merged_kept old w = maintains_kept old (merged old) refl (λ slot. refl) w

pub inserted_living : {K V : Type 0} (place : V → K) (old new : State K V) (e : Entity) (value : V) (before : Option V) → OnTable (λ t t'. Inserts place old.people t e value before t') old new → OnlyLiving old → OnlyLiving new
inserted_living place old new e value before s w = keeps_step {S = ℕ} {J = ℕ} place no_clones old (AskInsert e value) (Value before) new s w

pub removed_living : {K V : Type 0} (place : V → K) (old new : State K V) (slot : K) (e : Entity) (found : Option V) → OnTable (λ t t'. Removes old.people t slot e found t') old new → OnlyLiving old → OnlyLiving new
removed_living place old new slot e found s w = keeps_step {S = ℕ} {J = ℕ} place no_clones old (AskRemove slot e) (Value found) new s w

-- ids count for nothing here
pub living_whatever_ids : {K V : Type 0} (s : State K V) (ids : Ids K) → OnlyLiving s → OnlyLiving (record s { ids = ids })
living_whatever_ids s ids w = record { values = w.values; born = w.born; below = w.below }

-- what each step keeps, a run keeps
module _ {S J K V : Type 0} (place : V → K) (clones : Clones K V) (marks : Markers K V) (does : J → State K V → List (Job S J K V) → State K V → Type 0) (wants : J → State K V → Type 0) (P : State K V → Type 0)
    (core : (old : State K V) (c : Command S J K V) (r : Reply V) (new : State K V) → CoreStep place clones old c r new → P old → P new)
    (maintain : (old new : WorldState S J K V) (limit : ℕ) (m : Maintained) → Maintains place marks does wants old limit m new → P old.core → P new.core) where
  step : (old : WorldState S J K V) (c : Command S J K V) (r : Reply V) (new : WorldState S J K V) → Step place clones marks does wants old c r new → P old.core → P new.core
  step old (Queue job) Done new s w = subst P (sym s.core) w
  step old (Maintain limit) (Kept m) new s w = maintain old new limit m s w
  step old c r new s w = core old.core c r new.core s.core w

  lasts : (cs : List (Command S J K V)) (rs : List (Reply V)) (old new : WorldState S J K V) → Run place clones marks does wants old cs rs new → P old.core → P new.core
  lasts [] [] old new run w = subst (λ (s : WorldState S J K V). P s.core) (sym run) w
  lasts [] (r ∷ rs) old new run w = absurd run
  lasts (c ∷ cs) [] old new run w = absurd run
  lasts (c ∷ cs) (r ∷ rs) old new run w = lasts cs rs run.0 new run.2 (step old c r run.0 run.1 w)

module _ {S J K V : Type 0} (place : V → K) (clones : Clones K V) (marks : Markers K V) (does : J → State K V → List (Job S J K V) → State K V → Type 0) (wants : J → State K V → Type 0)
    (grows : (j : J) (old new : State K V) (more : List (Job S J K V)) → does j old more new → Evolves old.people new.people) where
  -- jobs leave dead who died
  pub gone_jobs : (e : Entity) (old new : State K V) (jobs left : List (Job S J K V)) (stopped : Bool) (limit count counted : ℕ) → RunsJobs place marks does wants stopped limit count counted old jobs new left → IsGone old.people e → IsGone new.people e
  gone_jobs e old new jobs left stopped limit count counted s w =
      (carried place marks does wants (λ (s : State K V). IsGone s.people e) (λ _. Unit {0})
      (λ s ids w. w) (λ place old new x value before s w. subst (λ p. IsGone p e) (sym s.people) w)
      (λ old new slot x found s w. subst (λ p. IsGone p e) (sym s.people) w)
      (λ j old new more q s w. (gone_evolved (grows j old new more s).count old.people new.people e (grows j old new more s).steps w, each_unit more))
      (λ pairs rest q. tt)
      stopped limit count counted old new jobs left s (each_unit jobs) w).0

  pub gone_maintained : (e : Entity) (old new : WorldState S J K V) (limit : ℕ) (m : Maintained) → Maintains place marks does wants old limit m new → IsGone old.core.people e → IsGone new.core.people e
  gone_maintained e old new limit m s w = gone_jobs e (merged old.core) new.core old.jobs new.jobs m.stopped limit m.ran m.refused s.jobs (gone_after_merge old.core.people e w)

  pub gone_step : (old : WorldState S J K V) (c : Command S J K V) (r : Reply V) (new : WorldState S J K V) (e : Entity) → Step place clones marks does wants old c r new → IsGone old.core.people e → IsGone new.core.people e
  gone_step old c r new e s w = step place clones marks does wants (λ (s : State K V). IsGone s.people e) (λ old c r new s w. keeps_gone place clones old c r new e s w) (gone_maintained e) old c r new s w

  pub gone_run : (cs : List (Command S J K V)) (rs : List (Reply V)) (old new : WorldState S J K V) (e : Entity) → Run place clones marks does wants old cs rs new → IsGone old.core.people e → IsGone new.core.people e
  gone_run cs rs old new e run w = lasts place clones marks does wants (λ (s : State K V). IsGone s.people e) (λ old c r new s w. keeps_gone place clones old c r new e s w) (gone_maintained e) cs rs old new run w

  module _ (lives_on : (j : J) (old new : State K V) (more : List (Job S J K V)) → does j old more new → OnlyLiving old → ValuesLive new) where
    own_living : (j : J) (old new : State K V) (more : List (Job S J K V)) → does j old more new → OnlyLiving old → OnlyLiving new
    own_living j old new more s w = grown old new (grows j old new more s) w (lives_on j old new more s w)

    pub living_jobs : (old new : State K V) (jobs left : List (Job S J K V)) (stopped : Bool) (limit count counted : ℕ) → RunsJobs place marks does wants stopped limit count counted old jobs new left → OnlyLiving old → OnlyLiving new
    living_jobs old new jobs left stopped limit count counted s w =
        (carried place marks does wants OnlyLiving (λ _. Unit {0}) living_whatever_ids inserted_living (removed_living place)
        (λ j old new more q s w. (own_living j old new more s w, each_unit more)) (λ pairs rest q. tt)
        stopped limit count counted old new jobs left s (each_unit jobs) w).0

    living_maintained : (old new : WorldState S J K V) (limit : ℕ) (m : Maintained) → Maintains place marks does wants old limit m new → OnlyLiving old.core → OnlyLiving new.core
    living_maintained old new limit m s w = living_jobs (merged old.core) new.core old.jobs new.jobs m.stopped limit m.ran m.refused s.jobs (merged_kept old.core w)

    pub living_step : (old : WorldState S J K V) (c : Command S J K V) (r : Reply V) (new : WorldState S J K V) → Step place clones marks does wants old c r new → OnlyLiving old.core → OnlyLiving new.core
    living_step = step place clones marks does wants OnlyLiving (keeps_step place clones) living_maintained

    pub living_run : (cs : List (Command S J K V)) (rs : List (Reply V)) (old new : WorldState S J K V) → Run place clones marks does wants old cs rs new → OnlyLiving old.core → OnlyLiving new.core
    living_run = lasts place clones marks does wants OnlyLiving (keeps_step place clones) living_maintained
