use Rattle.joins.proofs.tuples.Tuple6Join.is_unconstrained.Goals as goal

pub returns : goal.returns
returns g c = record { may = c.is_unconstrained.ensures.may; all = λ e j i lt. c.is_unconstrained.ensures.all e (j.0, (j.1, j.2, j.3, j.4, j.5)) i lt }
