use Rattle.std.proofs.Common.{rules, ◌≡◌, refl}
use Rattle.std.specs.Prelude.{Err}
use Rattle.saveload.specs.Places.{place, has_left, has_right}
use Rattle.saveload.specs.Loads.{column}
use Rattle.saveload.proofs.Lists.{storing_left, storing_right}
use Rattle.saveload.proofs.Rows.{err_weaker}
use Rattle.saveload.proofs.Putting.{same_two}
use Rattle.saveload.proofs.Resting.{put_both, some_both, some_first, stores_both}
use Rattle.saveload.proofs.load.store_with_rest.Goals as goal

pub returns-in_err-store_place-clause-stopped : goal.returns-in_err-store_place-clause-stopped
returns-in_err-store_place-clause-stopped g c alive =
    some_first (place g.A.ConvertSaveload.conversion) g.R.DeserializeComponents.conversion _ _ c.args.entity (column c.args.first.now) (column c.store_place.new.masked) (g.R.DeserializeComponents.rows c.args.rest.now)
    g.R.DeserializeComponents.Partly c.in_err-store_place.ensures.err c.from_residual.result
    (λ f gives. let same : c.from_residual.result ≡ Err c.in_err-store_place.field-0.0 = search rules in rw same (c.in_err-store_place.ensures.refused f gives))

pub returns-in_err-store_place-clause-refused : goal.returns-in_err-store_place-clause-refused
returns-in_err-store_place-clause-refused g c f gives =
    let same : c.from_residual.result ≡ Err c.in_err-store_place.field-0.0 = search rules in
    rw same (storing_left ((place g.A.ConvertSaveload.conversion).unloaded c.args.saved.0) (g.R.DeserializeComponents.conversion.unloaded c.args.saved.1) c.in_err-store_place.field-0.0 (c.in_err-store_place.ensures.refused f (λ m r h p. gives m r (has_left ((place g.A.ConvertSaveload.conversion).mentions c.args.saved.0) _ m h) p)))

pub returns-clause-rows : goal.returns-clause-rows
returns-clause-rows g c alive =
    put_both (place g.A.ConvertSaveload.conversion) g.R.DeserializeComponents.conversion _ c.args.saved c.args.entity (column c.args.first.now) (column c.store_place.new.masked) (g.R.DeserializeComponents.rows c.args.rest.now)
    (g.R.DeserializeComponents.rows c.deserialize_entity.new.self) (c.in_ok-store_place.ensures.stored alive) c.deserialize_entity.result (c.deserialize_entity.ensures.rows alive)

pub returns-clause-stopped : goal.returns-clause-stopped
returns-clause-stopped g c alive =
    some_both (place g.A.ConvertSaveload.conversion) g.R.DeserializeComponents.conversion _ c.args.saved c.args.entity (column c.args.first.now) (column c.store_place.new.masked) (g.R.DeserializeComponents.rows c.args.rest.now)
    g.R.DeserializeComponents.Partly (g.R.DeserializeComponents.rows c.deserialize_entity.new.self) (c.in_ok-store_place.ensures.stored alive) c.deserialize_entity.result (c.deserialize_entity.ensures.stopped alive)

pub returns-clause-refused : goal.returns-clause-refused
returns-clause-refused g c f gives =
    err_weaker c.deserialize_entity.result (storing_right ((place g.A.ConvertSaveload.conversion).unloaded c.args.saved.0) (g.R.DeserializeComponents.conversion.unloaded c.args.saved.1))
    (c.deserialize_entity.ensures.refused f (λ m r h p. gives m r (has_right ((place g.A.ConvertSaveload.conversion).mentions c.args.saved.0) _ m h) p))

pub returns-in_err-store_place-clause-dead : goal.returns-in_err-store_place-clause-dead
returns-in_err-store_place-clause-dead g c dead =
    same_two (column c.args.first.now) (column c.store_place.new.masked) (g.R.DeserializeComponents.rows c.args.rest.now) (g.R.DeserializeComponents.rows c.args.rest.now) (c.in_err-store_place.ensures.dead dead) refl

pub returns-clause-dead : goal.returns-clause-dead
returns-clause-dead g c dead =
    same_two (column c.args.first.now) (column c.store_place.new.masked) (g.R.DeserializeComponents.rows c.args.rest.now) (g.R.DeserializeComponents.rows c.deserialize_entity.new.self) (c.in_ok-store_place.ensures.dead dead) (c.deserialize_entity.ensures.dead dead)

pub returns-in_err-store_place-clause-changes : goal.returns-in_err-store_place-clause-changes
returns-in_err-store_place-clause-changes g c = g.met.R.DeserializeComponents.changes_self c.args.rest.now

pub returns-clause-once : goal.returns-clause-once
returns-clause-once g c alive =
    stores_both g.A.ConvertSaveload.conversion g.R.DeserializeComponents.conversion _ c.args.saved c.args.entity g.R.DeserializeComponents.Stores c.args.first.now c.store_place.new.masked c.args.rest.now c.deserialize_entity.new.self
    (c.in_ok-store_place.ensures.once alive) c.deserialize_entity.result (c.deserialize_entity.ensures.once alive)
