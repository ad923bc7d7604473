use Rattle.std.proofs.Common.{sym, ap}
use Rattle.joins_parallel.specs.Replacing.{at_index}
use Rattle.joins_parallel.proofs.restricted.fn.remade_of.remake.Goals as goal

pub returns-in-Some : goal.returns-in-Some
returns-in-Some g c =
    (c.remake.result, c.new-paired.result, c.at.result, c.new-paired.ensures.slot, c.new-paired.ensures.index, c.at.ensures, c.remake.ensures, sym (ap (at_index c.args.id) c.in-Some.is))

pub returns-in-None : goal.returns-in-None
returns-in-None g c =
    (c.remake.result, c.new-paired.result, c.at.result, c.new-paired.ensures.slot, c.new-paired.ensures.index, c.at.ensures, c.remake.ensures, sym (ap (at_index c.args.id) c.in-None.is))
