use Rattle.storages.proofs.Walked.{Walked, Hears}
use Rattle.storages.proofs.channel.write_all.Given as goal

abbrev pub invariant-loop-reader : goal.invariant-loop-reader
invariant-loop-reader g l = Walked {E = g.row.E.Denot} (Hears l.event) l.reader-index l.initial.readers l.readers
