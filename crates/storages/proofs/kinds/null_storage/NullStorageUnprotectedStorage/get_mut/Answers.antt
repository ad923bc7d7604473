use Rattle.std.proofs.Common.{refl}
use Rattle.storages.proofs.Null.{null-writes}
use Rattle.storages.proofs.kinds.null_storage.NullStorageUnprotectedStorage.get_mut.Goals as goal

pub returns : goal.returns
returns g c = (
  (
    refl,
    (λ w. null-writes g.T.NullComponent.all_equal _ c.args.self.now.value w w c.args._id),
    record { presence = record { present = λ q h. h; free = λ q h. h }; keeps = tt },
  ),
  record { writes_back = tt; value = refl; succeeds = λ h. refl },
)
