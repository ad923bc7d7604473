use Rattle.std.proofs.Common.{rules}
use Rattle.callers.proofs.worlds.lived.Goals as goal

-- src/worlds.rt:16:1
pub returns : goal.returns
returns g c = c.run.ensures.living (c.new-world.ensures.living c.empty.ensures.empty)
