use Rattle.composed.proofs.saved_types.Tuple1SavedTypes.save.Goals as goal

pub returns-clause-saved : goal.returns-clause-saved
returns-clause-saved g c = rw (c.in-Some-Some.ensures, c.in-Some-Some.is-1) (rw (c.new.ensures.entities, c.new.ensures.slot) at c.save_text.ensures.saved)
