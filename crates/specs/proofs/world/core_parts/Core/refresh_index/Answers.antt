use Rattle.specs.specs.Typed.Shown.{on_ok}
use Rattle.specs.proofs.Covering.{knows_kept}
use Rattle.specs.proofs.world.core_parts.Core.refresh_index.Goals as goal

pub returns-clause-knows : goal.returns-clause-knows
returns-clause-knows g c = λ knows. on_ok c.refresh_in.result (λ keeps. knows_kept g.K.KeyOf.key c.refresh_in.new.index (g.S.Field.part c.refresh_in.new.storages) keeps) (c.refresh_in.ensures.keeps knows)
