use Rattle.std.proofs.Common.{ap, refl, length, List, Some}
use Rattle.storages.specs.Vec.{free_of_empty}
use Rattle.storages.proofs.kinds.vec_storage.VecStorageUnprotectedStorage.clean.Goals as goal

pub returns-clause-ok : goal.returns-clause-ok
returns-clause-ok g c =
    record {
      freed = λ q. free_of_empty _ c.clear.ensures.items q;
      extent = ap (λ (ys : List _). Some (length ys)) c.clear.ensures.items;
      channel = refl;
      needs_room = refl;
      room = λ n h. tt;
      needs_inner = refl;
      inner_room = λ n h. tt;
    }
