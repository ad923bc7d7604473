use Rattle.std.proofs.Common.{◌≡◌}
use Rattle.storages.proofs.Walked.{Lacks}
use Rattle.storages.proofs.channel.take_unread.Given as goal

abbrev pub invariant-loop-reader : goal.invariant-loop-reader
invariant-loop-reader g l = Lacks {E = g.row.E.Denot} l.number l.reader-index l.readers × (l.readers ≡ l.initial.readers)
