use Rattle.std.proofs.Common.{arith}
use Rattle.entities.proofs.Phases.Reserve.{slice_get_within}
use Rattle.entities.proofs.phase.plan.Plan.place_of.Goals as goal

pub returns-then-place-len : goal.returns-then-place-len
returns-then-place-len c k at =
    let place = c.requires k c.args.entity at in
    let within = slice_get_within c.args.self.now.reserve.items k c.args.entity at in
    omega (arith, c.place_of_index-place.ensures, place, within)
