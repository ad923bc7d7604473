use Rattle.std.specs.Prelude.{Result, Ok, Err, IfErr}
use Rattle.saveload.specs.declared.error.SaveError.{SaveError}
use Rattle.composed.specs.declared.saved_error.SaveWorldError.{SaveWorldError}
use Rattle.composed.specs.declared.saved_error.SaveWorldError.TheVariants.{Unregistered, Refused}
use Rattle.composed.specs.Saves.{NotSaved}
use Rattle.composed.proofs.saved_types.Tuple2SavedTypes.save.Goals as goal

-- what is refused for another cause than that a storage is missing is refused
refused_otherwise : {X : Type 0} (Missing : Type 0) (Why : SaveError → Type 0) (r : Result X SaveWorldError) → IfErr r (NotSaved ⊥ Why) → IfErr r (NotSaved Missing Why)
refused_otherwise Missing Why (Ok x) h = h
refused_otherwise Missing Why (Err Unregistered) h = absurd h
refused_otherwise Missing Why (Err (Refused why)) h = h

pub returns-clause-saved : goal.returns-clause-saved
returns-clause-saved g c = rw (c.in-Some-Some.ensures.0, c.in-Some-Some.ensures.1, c.in-Some-Some.is-1) (rw (c.new.ensures.entities, c.new.ensures.slot, c.new-2.ensures.entities, c.new-2.ensures.slot) at c.save_text.ensures.saved)

pub returns-clause-holds : goal.returns-clause-holds
returns-clause-holds g c = rw (c.in-Some-Some.ensures.0, c.in-Some-Some.ensures.1, c.in-Some-Some.is-1) (rw (c.new.ensures.entities, c.new.ensures.slot, c.new-2.ensures.entities, c.new-2.ensures.slot) at c.save_text.ensures.holds)

pub returns-clause-refused : goal.returns-clause-refused
returns-clause-refused g c =
    rw (c.in-Some-Some.ensures.0, c.in-Some-Some.ensures.1, c.in-Some-Some.is-1) (refused_otherwise _ _ c.save_text.result (rw (c.new.ensures.entities, c.new.ensures.slot, c.new-2.ensures.entities, c.new-2.ensures.slot) at c.save_text.ensures.refused))
