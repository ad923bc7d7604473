use Rattle.entities.proofs.phase.shared.Shared.delete.Given as goal

abbrev pub ghosts-mark_as : goal.ghosts-mark_as
ghosts-mark_as a = record { index = a.index }
