use Rattle.std.proofs.Common.{arith}
use Rattle.hibits.specs.Left.{left-ascends, left-contains, contains-left}
use Rattle.hibits.proofs.bit_iter.BitIter.new.Goals as goal

pub returns-clause-ascends : goal.returns-clause-ascends
returns-clause-ascends g c = left-ascends _ 0

pub returns-clause-holds : goal.returns-clause-holds
returns-clause-holds g c i lt is = left-contains _ 0 i (omega arith) lt is

pub returns-clause-members : goal.returns-clause-members
returns-clause-members g c i held = let h = contains-left _ 0 i held in (h.1, h.2)
