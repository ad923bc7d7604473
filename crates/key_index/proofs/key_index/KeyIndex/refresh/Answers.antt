use Rattle.std.proofs.Common.{arith, rules}
use Rattle.std.proofs.lemmas.Grind.{common_steps}
use Rattle.storages.specs.WriteView.{slot}
use Rattle.key_index.proofs.Kept.{index_of_keys}
use Rattle.key_index.proofs.key_index.KeyIndex.refresh.Goals as goal

pub returns-then-done-clause-ok : goal.returns-then-done-clause-ok
returns-then-done-clause-ok g c covers =
    index_of_keys (g.K.KeyOf.key c.args.self.now.key) g.K.Key.Ord.cmp c.if-self.self.lists (slot c.read.new.self)
    (first_of (search rules, grind (arith, common_steps)))
