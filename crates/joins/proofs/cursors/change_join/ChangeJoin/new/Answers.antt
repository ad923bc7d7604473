use Rattle.joins.proofs.CursorLemmas.{mask_is, none_at}
use Rattle.joins.proofs.cursors.change_join.ChangeJoin.new.Goals as goal

pub invariant_of-result : goal.invariant_of-result
invariant_of-result g c = record {
  valid = rw (mask_is _ _ c.mask.ensures) at c.new-steps.ensures.walk;
  there = λ x e. absurd (none_at _ c.new-steps.ensures.current x e);
}
