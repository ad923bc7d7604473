use Rattle.storages.proofs.Walked.{Walked, Reserves}
use Rattle.storages.proofs.channel.reserve_all.Given as goal

abbrev pub invariant-loop-reader : goal.invariant-loop-reader
invariant-loop-reader g l = Walked {E = g.row.E.Denot} (Reserves l.n) l.reader-index l.initial.readers l.readers
