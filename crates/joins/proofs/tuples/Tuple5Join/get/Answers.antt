use Rattle.joins.proofs.tuples.Tuple5Join.get.Goals as goal

pub returns-clause-later_gives : goal.returns-clause-later_gives
returns-clause-later_gives g c i r lt h = c.get-a.ensures.later_gives i (r.0, (r.1, r.2, r.3, r.4)) lt h

pub returns-clause-again_gives : goal.returns-clause-again_gives
returns-clause-again_gives g c e i r h = c.get-a.ensures.again_gives e i (r.0, (r.1, r.2, r.3, r.4)) h
