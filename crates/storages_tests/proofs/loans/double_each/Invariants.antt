use Rattle.std.proofs.Common.{◌≡◌, ◌++◌, map, take, drop}
use Rattle.storages_tests.specs.Doubled.{doubled}
use Rattle.storages_tests.proofs.loans.double_each.Given as goal

abbrev pub invariant-loop-i : goal.invariant-loop-i
invariant-loop-i l = l.values ≡ map doubled (take l.i l.fn.values) ++ drop l.i l.fn.values
