use Rattle.storages.proofs.Walked.{Lacks}
use Rattle.storages.proofs.channel.place_of.Given as goal

abbrev pub invariant-loop-place : goal.invariant-loop-place
invariant-loop-place g l = Lacks {E = g.row.E.Denot} l.number l.place l.readers
