use Rattle.std.proofs.Common.{◌≡◌}
use Rattle.entities.specs.Upcoming.{upcoming}
use Rattle.entities.proofs.allocator.Allocator.upcoming.Given as goal

abbrev pub invariant-loop-earlier : goal.invariant-loop-earlier
invariant-loop-earlier l = l.entities.items ≡ upcoming l.self l.earlier
