use Rattle.callers.proofs.joined.all_points.Goals as goal

pub returns : goal.returns
returns g c = rw c.par_join.ensures at c.map_collect.ensures.made
