use Rattle.std.proofs.Common.{drop}
use Rattle.storages.proofs.Removals.{IsOnTheWay}
use Rattle.storages.proofs.masked.MaskedStorage.drop_all.Given as goal

abbrev pub invariant-loop-e : goal.invariant-loop-e
invariant-loop-e g l = IsOnTheWay l.self l.initial.self (drop l.e-index l.list) l.list
