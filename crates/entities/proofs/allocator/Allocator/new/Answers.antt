use Rattle.std.proofs.Common.{ap, arith, length}
use Rattle.entities.proofs.Population.Steps.{sets_empty}
use Rattle.entities.proofs.Kept.Stack.{stacked_empty}
use Rattle.entities.proofs.allocator.Allocator.new.Goals as goal

pub invariant_of-result : goal.invariant_of-result
invariant_of-result c = record {
  stack = stacked_empty c.new.result.items c.new-2.result.items c.new.ensures.items c.new-2.ensures.items;
  sets = sets_empty c.new.result.items c.new-3.result c.new-4.result c.new-5.result c.new.ensures.items c.new-3.ensures.members c.new-4.ensures.members c.new-5.ensures.members;
  roomy = record { born_within = omega (arith, ap length c.new.ensures.items); few = omega arith; in_list = omega arith; in_stack = omega arith; in_sets = λ j lt. absurd (omega arith) };
}
