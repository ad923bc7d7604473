use Rattle.std.proofs.Common.{◌∙◌}
use Rattle.joins.proofs.CursorLemmas.{left_of_all}
use Rattle.joins.proofs.cursors.restricted_mut.RestrictedStorageMut+T+BitSetAll.over.Goals as goal

pub returns-clause-rest : goal.returns-clause-rest
returns-clause-rest g c = c.new.ensures.rest ∙ left_of_all _
