use Rattle.joins.proofs.CursorLemmas.{mask_is}
use Rattle.joins.proofs.cursors.drain.Drain.new.Goals as goal

pub invariant_of-result : goal.invariant_of-result
invariant_of-result g c = record {
  valid = rw (mask_is _ _ c.mask.ensures) at c.new-steps.ensures.walk;
}
