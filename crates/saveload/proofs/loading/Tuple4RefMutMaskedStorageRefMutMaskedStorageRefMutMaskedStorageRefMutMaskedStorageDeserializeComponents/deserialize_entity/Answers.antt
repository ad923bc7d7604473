use Rattle.std.proofs.Common.{refl}
use Rattle.saveload.specs.Places.{place, both}
use Rattle.saveload.specs.Stops.{PartlyPair, PartlyThree}
use Rattle.saveload.specs.Tuples.{four, three_places}
use Rattle.saveload.proofs.Rows.{on_ok}
use Rattle.saveload.proofs.Resting.{put_along, some_along, same_along}
use Rattle.saveload.proofs.loading.Tuple4RefMutMaskedStorageRefMutMaskedStorageRefMutMaskedStorageRefMutMaskedStorageDeserializeComponents.deserialize_entity.Goals as goal

pub returns-clause-changes : goal.returns-clause-changes
returns-clause-changes g c = (record { loan = refl; told = c.store_with_rest.ensures.told }, record { loan = refl; told = c.store_with_rest.ensures.changes.0.told }, record { loan = refl; told = c.store_with_rest.ensures.changes.1.told }, record { loan = refl; told = c.store_with_rest.ensures.changes.2.told })

pub returns-clause-rows : goal.returns-clause-rows
returns-clause-rows g c alive =
    put_along four four (both (place g.A.ConvertSaveload.conversion) (three_places g.B.ConvertSaveload.conversion g.C.ConvertSaveload.conversion g.D.ConvertSaveload.conversion))
    _ c.args.saved c.args.entity _ _ c.store_with_rest.result (c.store_with_rest.ensures.rows alive)

pub returns-clause-stopped : goal.returns-clause-stopped
returns-clause-stopped g c alive =
    some_along four four (both (place g.A.ConvertSaveload.conversion) (three_places g.B.ConvertSaveload.conversion g.C.ConvertSaveload.conversion g.D.ConvertSaveload.conversion))
    _ c.args.saved c.args.entity _ _ (PartlyPair (place g.A.ConvertSaveload.conversion).unloaded (PartlyThree (place g.B.ConvertSaveload.conversion).unloaded (place g.C.ConvertSaveload.conversion).unloaded (place g.D.ConvertSaveload.conversion).unloaded)) c.store_with_rest.result (c.store_with_rest.ensures.stopped alive)

pub returns-clause-refused : goal.returns-clause-refused
returns-clause-refused g c = c.store_with_rest.ensures.refused

pub returns-clause-dead : goal.returns-clause-dead
returns-clause-dead g c dead = same_along four _ _ (c.store_with_rest.ensures.dead dead)

pub returns-clause-once : goal.returns-clause-once
returns-clause-once g c alive = on_ok c.store_with_rest.result (λ stores f gives. let k = stores f gives in (k.0, k.1.0, k.1.1, k.1.2)) (c.store_with_rest.ensures.once alive)
