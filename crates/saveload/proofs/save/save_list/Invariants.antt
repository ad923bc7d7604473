use Rattle.std.proofs.Common.{take}
use Rattle.storages.specs.ReadView.{found}
use Rattle.saveload.specs.Saved.{IsSavedList}
use Rattle.saveload.proofs.save.save_list.Given as goal

abbrev pub invariant-loop-e : goal.invariant-loop-e
invariant-loop-e g l = IsSavedList g.P.SerializeComponents.conversion (λ x. found l.markers x) (λ x. g.P.SerializeComponents.values l.places x) (take l.e-index l.list) l.records.items
