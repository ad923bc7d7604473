use Rattle.std.proofs.Common.{◌≡◌, ◌++◌}
use Rattle.joins.specs.Changes.{all_changed}
use Rattle.joins.proofs.change_set.ChangeSet.extend.Given as goal

abbrev pub invariant-loop-entity : goal.invariant-loop-entity
invariant-loop-entity g l = record {
  split : l.yielded ++ l.entity-iterator.rest.items ≡ l.fn.list.items;
  added : l.self ≡ all_changed g.T.Combine.combined l.yielded l.initial.self;
}
