-- What jobs of a user's do.
use Rattle.std.specs.Prelude.{◌≡◌, ℕ, Bool, true, List, [], ◌∷◌, ◌⊎◌, Option}
use Rattle.std.proofs.Common.{inl, inr, sym, ap, subst, ◌∙◌}
use Rattle.entities.specs.declared.entity.Entity.{Entity}
use Rattle.entities.specs.Population.{born}
use Rattle.specs.specs.declared.command.Command.TheVariants.{Insert}
use Rattle.specs.specs.declared.command.Reply.TheVariants.{Value}
use Rattle.specs.specs.declared.job.Job.{Job}
use Rattle.specs.specs.Laws.Evolving.{Evolves, ValuesLive}
use Rattle.specs.specs.Reading.Following.{IsFollowed, IsListening, Advances, JobSpares, AllSpare, Spared, Tells}
use Rattle.specs.specs.Laws.Lawful.{still_grows, still_lives, still_tells, born_lives, inserted_tells}
use Rattle.specs.specs.Slots.Clones.{no_clones}
use Rattle.specs.specs.Laws.Living.{keeps_step}
use Rattle.specs.specs.World.People.{Births}
use Rattle.specs.specs.Laws.Reached.{OnlyLiving}
use Rattle.specs.specs.World.State.{State, OnPeople, OnTable}
use Rattle.specs.specs.Slots.Table.{Table, Inserts}

-- a job that changed nothing, and queued one that spares the reader
pub still_after : {S J K V : Type 0} (spares : J → K → ℕ → Type 0) (slot : K) (n : ℕ) (old new : State K V) (more : List (Job S J K V)) → new ≡ old
    → (job : Job S J K V) → JobSpares spares slot n job → more ≡ job ∷ [] → IsFollowed slot n old → Spared spares slot n old more new
still_after spares slot n old new more same job q is l = still_tells spares slot n old new more (ap (λ (s : State _ _). s.table) same) (subst (AllSpare spares slot n) (sym is) (q, tt)) l

-- an entity gets the value, or nothing happens
abbrev pub Given : {K V : Type 0} → (V → K) → Entity → V → State K V → State K V → Type 0
Given {K} {V} place e value old new = ((before : Option V) × OnTable (λ t t'. Inserts place old.people t e value before t') old new) ⊎ (new ≡ old)

-- an entity is born, and it gets the value, or not
pub record Spreads {K V : Type 0} (place : V → K) (value : V) (old new : State K V) : Type 0 where
  pub born_as : Entity
  pub mid : State K V
  pub born : OnPeople (λ p p'. Births born p born_as p') old mid
  pub given : Given place born_as value mid new

-- no job is queued, and an entity is born, or nothing happens
abbrev pub MaySpread : {J K V : Type 0} → (V → K) → V → State K V → List J → State K V → Type 0
MaySpread place value old more new = (more ≡ []) × ((new ≡ old) ⊎ Spreads place value old new)

pub spreads_grows : {J K V : Type 0} (place : V → K) (value : V) (old new : State K V) (more : List J) → MaySpread place value old more new → Evolves old.people new.people
spreads_grows {J} {K} {V} place value old new more d = both d.1
  where
    people : (mid : State K V) (e : Entity) → Given place e value mid new → new.people ≡ mid.people
    people mid e (inl s) = s.1.people
    people mid b (inr e) = ap (λ (s : State K V). s.people) e

    both : (new ≡ old) ⊎ Spreads place value old new → Evolves old.people new.people
    both (inl e) = still_grows old new e
    both (inr s) = record { count = 1; steps = (s.mid.people, inl (s.born_as, s.born.people), people s.mid s.born_as s.given) }

pub spreads_lives : {J K V : Type 0} (place : V → K) (value : V) (old new : State K V) (more : List J) → MaySpread place value old more new → OnlyLiving old → ValuesLive new
spreads_lives {J} {K} {V} place value old new more d w = both d.1
  where
    after : (mid : State K V) (e : Entity) → Given place e value mid new → OnlyLiving mid → OnlyLiving new
    after mid e (inl s) w = keeps_step {S = ℕ} {J = ℕ} place no_clones mid (Insert e value) (Value s.0) new s.1 w
    after mid e (inr same) w = subst (λ (s : State K V). OnlyLiving s) (sym same) w

    both : (new ≡ old) ⊎ Spreads place value old new → ValuesLive new
    both (inl e) = still_lives old new e w
    both (inr s) = (after s.mid s.born_as s.given (born_lives place old s.mid s.born_as s.born w)).values

-- who follows a slot is told of the value that the entity got, if it got one in that slot, and follows it still
pub spreads_tells : {S J K V : Type 0} (spares : J → K → ℕ → Type 0) (slot : K) (n : ℕ) (here : K → Bool) → Tells here slot
    → (place : V → K) (value : V) (old new : State K V) (more : List (Job S J K V)) → MaySpread place value old more new → IsFollowed slot n old → Spared spares slot n old more new
spreads_tells {S} {J} {K} {V} spares slot n here tells place value old new more d l = both d.1
  where
    added : AllSpare spares slot n more
    added = subst (AllSpare spares slot n) (sym d.0) tt

    after : (s : Spreads place value old new) → Given place s.born_as value s.mid new → Spared spares slot n old more new
    after s (inl g) =
        let there : IsFollowed slot n s.mid = subst (λ (t : Table K V). IsListening n (t slot)) (sym s.born.table) l in
        let told = inserted_tells spares slot n here tells place s.mid new s.born_as value g.0 more g.1 added there in
        record {
          follows = λ w. subst (λ (t : Table K V). Advances n (t slot) (new.table slot) []) s.born.table (told.follows (born_lives place old s.mid s.born_as s.born w));
          followed = told.followed;
          added = added;
        }
    after s (inr same) = still_tells spares slot n old new more (ap (λ (t : State K V). t.table) same ∙ s.born.table) added l

    both : (new ≡ old) ⊎ Spreads place value old new → Spared spares slot n old more new
    both (inl same) = still_tells spares slot n old new more (ap (λ (t : State K V). t.table) same) added l
    both (inr s) = after s s.given
