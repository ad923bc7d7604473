use Rattle.std.proofs.Common.{rules}
use Rattle.joins.specs.Over.{IsOver}
use Rattle.joins.proofs.cursors.steps.Steps.new.Goals as goal

pub returns-clause-walk : goal.returns-clause-walk
unfolding IsOver
returns-clause-walk g c = search rules
