use Rattle.key_index.proofs.Kept.{listed_none}
use Rattle.key_index.proofs.key_lists.KeyLists.new.Goals as goal

pub invariant_of-result : goal.invariant_of-result
invariant_of-result g c = listed_none _ _ c.new.ensures.items c.new-2.ensures.empty
