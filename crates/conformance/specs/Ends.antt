-- What a job meets that deletes all.
use Rattle.std.specs.Prelude.{◌⊎◌}
use Rattle.std.proofs.Common.{inl, inr, refl}
use Rattle.specs.specs.Laws.Evolving.{Evolves, ValuesLive}
use Rattle.specs.specs.Laws.Living.{deletes_kept}
use Rattle.specs.specs.World.People.{the_living}
use Rattle.specs.specs.Laws.Reached.{OnlyLiving}
use Rattle.specs.specs.World.State.{State, Deletes}

module _ {K V : Type 0} where
  pub ended_grows : (old new : State K V) → Deletes (the_living old.people) old new → Evolves old.people new.people
  ended_grows old new s = record { count = 1; steps = (new.people, inr (inr (inl (the_living old.people, s.people))), refl) }

  pub ended_lives : (old new : State K V) → Deletes (the_living old.people) old new → OnlyLiving old → ValuesLive new
  ended_lives old new s w = (deletes_kept (the_living old.people) old new s w).values
