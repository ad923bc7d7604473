use Rattle.composed.proofs.saved_lists.save_text.Goals as goal

pub returns-in-Ok-clause-saved : goal.returns-in-Ok-clause-saved
returns-in-Ok-clause-saved g c = rw c.new.ensures.entities at (rw c.new.ensures.slot at c.in-Ok.ensures.saved)

pub returns-in-Err-clause-refused : goal.returns-in-Err-clause-refused
returns-in-Err-clause-refused g c = rw c.new.ensures.entities at (rw c.new.ensures.slot at c.in-Err.ensures.refused)
