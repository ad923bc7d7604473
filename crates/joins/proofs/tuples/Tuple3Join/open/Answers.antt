use Rattle.joins.proofs.tuples.Tuple3Join.open.Goals as goal

pub returns-clause-gives : goal.returns-clause-gives
returns-clause-gives g c i r h = c.open.ensures.gives i (r.0, (r.1, r.2)) h
