use Rattle.joins.proofs.CursorLemmas.{either_lives}
use Rattle.joins.proofs.cursors.entry_join.EntryJoin.new.Goals as goal

pub invariant_of-result : goal.invariant_of-result
invariant_of-result g c = record {
  valid = c.new-steps.ensures.walk;
  alive = λ i. either_lives _ _ c.args.entities.now c.living-living.ensures.merged c.living-living.ensures.pending i;
}
