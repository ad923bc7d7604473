use Rattle.entities.proofs.phase.shared.Shared.pending.Given as goal

abbrev pub ghosts-peek_as : goal.ghosts-peek_as
ghosts-peek_as a = record { index = a.index }
