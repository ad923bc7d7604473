use Rattle.entities.proofs.Population.Upcoming.{IsBorne}
use Rattle.entities.proofs.allocator.Allocator.bear_reserved.Given as goal

abbrev pub invariant-loop-earlier : goal.invariant-loop-earlier
invariant-loop-earlier l = IsBorne l.fn.self l.earlier l.self
