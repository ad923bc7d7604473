use Rattle.std.proofs.Common.{ap, is_some, refl}
use Rattle.std.specs.Result.{is_ok}
use Rattle.storages.proofs.Slot.{put_there, insert_then_write, some_same}
use Rattle.storages.proofs.masked.MaskedStorage.insert_mut.Goals as goal

pub present_mut-requires : goal.present_mut-requires
present_mut-requires g c = ap is_some (put_there _ _ c.args.id c.args.value c.in-Ok-insert.ensures.ok.map)

pub returns : goal.returns
returns g c = (
  (
    refl,
    (λ w ok. insert_then_write _ _ _ _ c.args.id c.args.value w c.reserve_events.ensures.same c.in-Ok-insert.ensures.ok
        ((c.present_mut.follows.holds w).becomes (ap is_ok c.in-Ok-present_mut.is))),
    tt,
  ),
  record {
    writes_back = tt;
    value = some_same _ _ _ c.in-Ok-present_mut.ensures.value (put_there _ _ c.args.id c.args.value c.in-Ok-insert.ensures.ok.map);
    value_returned = tt;
  },
)
