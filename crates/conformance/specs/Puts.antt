-- What a job does that puts a value at an entity.
use Rattle.std.specs.Prelude.{◌≡◌, ℕ, true, ◌⊎◌, Option}
use Rattle.std.proofs.Common.{inl, inr}
use Rattle.entities.specs.declared.entity.Entity.{Entity}
use Rattle.specs.specs.declared.command.Command.TheVariants.{Insert}
use Rattle.specs.specs.declared.command.Reply.TheVariants.{Value}
use Rattle.specs.specs.Laws.Evolving.{Evolves, ValuesLive}
use Rattle.specs.specs.Laws.Lawful.{still_grows, still_lives}
use Rattle.specs.specs.Slots.Clones.{no_clones}
use Rattle.specs.specs.Laws.Living.{keeps_step}
use Rattle.specs.specs.Laws.Reached.{OnlyLiving}
use Rattle.specs.specs.World.State.{State, OnTable}
use Rattle.specs.specs.Slots.Table.{Inserts}

module _ {K V : Type 0} where
  -- an entity gets the value, or nothing happens
  abbrev pub Given : (V → K) → Entity → V → State K V → State K V → Type 0
  Given place e value old new = ((before : Option V) × OnTable (λ t t'. Inserts place old.people t e value before t') old new) ⊎ (new ≡ old)

  pub given_grows : (place : V → K) (e : Entity) (value : V) (old new : State K V) → Given place e value old new → Evolves old.people new.people
  given_grows place e value old new (inl s) = record { count = 0; steps = s.1.people }
  given_grows place e value old new (inr same) = still_grows old new same

  pub given_lives : (place : V → K) (e : Entity) (value : V) (old new : State K V) → Given place e value old new → OnlyLiving old → ValuesLive new
  given_lives place e value old new (inl s) w = (keeps_step {S = ℕ} {J = ℕ} place no_clones old (Insert e value) (Value s.0) new s.1 w).values
  given_lives place e value old new (inr same) w = still_lives old new same w
