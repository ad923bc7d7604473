use Rattle.std.proofs.Common.{rules, ◌≡◌, refl, inl, inr}
use Rattle.std.specs.Prelude.{Err}
use Rattle.saveload.specs.Places.{place, has_left, has_right}
use Rattle.saveload.specs.Loads.{column}
use Rattle.saveload.specs.Told.IsTold.{start}
use Rattle.saveload.proofs.Lists.{storing_left, storing_right}
use Rattle.saveload.proofs.Putting.{put_two, same_two, put_same}
use Rattle.entities.specs.Population.{index_of}
use Rattle.saveload.proofs.loading.Tuple2RefMutMaskedStorageRefMutMaskedStorageDeserializeComponents.deserialize_entity.Goals as goal

pub returns-clause-rows : goal.returns-clause-rows
returns-clause-rows g c alive f gives =
    let d0 = (place g.A.ConvertSaveload.conversion).mentions c.args.saved.0 in
    let d1 = (place g.B.ConvertSaveload.conversion).mentions c.args.saved.1 in
    put_two (column c.args.self.now.0.now) (column c.store_place.new.masked) (column c.args.self.now.1.now) (column c.store_place-2.new.masked) (index_of c.args.entity) _ _
    (c.in_ok-store_place.ensures.stored alive f (λ m r h p. gives m r (has_left d0 d1 m h) p))
    (c.in_ok-store_place-2.ensures.stored alive f (λ m r h p. gives m r (has_right d0 d1 m h) p))

pub returns-in_err-store_place-clause-stopped : goal.returns-in_err-store_place-clause-stopped
returns-in_err-store_place-clause-stopped g c alive =
    let d0 = (place g.A.ConvertSaveload.conversion).mentions c.args.saved.0 in
    let d1 = (place g.B.ConvertSaveload.conversion).mentions c.args.saved.1 in
    let same : c.from_residual.result ≡ Err c.in_err-store_place.field-0.0 = search rules in
    rw same (λ f gives. record {
      mid = _;
      part = inl (c.in_err-store_place.ensures.refused f (λ m r h p. gives m r (has_left d0 d1 m h) p), refl);
      rows = put_two (column c.args.self.now.0.now) (column c.store_place.new.masked) (column c.args.self.now.1.now) (column c.args.self.now.1.now) (index_of c.args.entity) _ _
          (put_same (column c.args.self.now.0.now) (column c.store_place.new.masked) (index_of c.args.entity) c.in_err-store_place.ensures.err)
          (put_same (column c.args.self.now.1.now) (column c.args.self.now.1.now) (index_of c.args.entity) refl);
    })

pub returns-in_err-store_place-clause-refused : goal.returns-in_err-store_place-clause-refused
returns-in_err-store_place-clause-refused g c f gives =
    let d0 = (place g.A.ConvertSaveload.conversion).mentions c.args.saved.0 in
    let d1 = (place g.B.ConvertSaveload.conversion).mentions c.args.saved.1 in
    let same : c.from_residual.result ≡ Err c.in_err-store_place.field-0.0 = search rules in
    rw same (storing_left ((place g.A.ConvertSaveload.conversion).unloaded c.args.saved.0) ((place g.B.ConvertSaveload.conversion).unloaded c.args.saved.1) c.in_err-store_place.field-0.0 (c.in_err-store_place.ensures.refused f (λ m r h p. gives m r (has_left d0 d1 m h) p)))

pub returns-in_err-store_place-clause-dead : goal.returns-in_err-store_place-clause-dead
returns-in_err-store_place-clause-dead g c dead =
    same_two (column c.args.self.now.0.now) (column c.store_place.new.masked) (column c.args.self.now.1.now) (column c.args.self.now.1.now) (c.in_err-store_place.ensures.dead dead) refl

pub returns-in_err-store_place-2-clause-stopped : goal.returns-in_err-store_place-2-clause-stopped
returns-in_err-store_place-2-clause-stopped g c alive =
    let d0 = (place g.A.ConvertSaveload.conversion).mentions c.args.saved.0 in
    let d1 = (place g.B.ConvertSaveload.conversion).mentions c.args.saved.1 in
    let same : c.from_residual-in_err-store_place-2.result ≡ Err c.in_err-store_place-2.field-0.0 = search rules in
    rw same (λ f gives. record {
      mid = _;
      part = inr (refl, (c.in_err-store_place-2.ensures.refused f (λ m r h p. gives m r (has_right d0 d1 m h) p), refl));
      rows = put_two (column c.args.self.now.0.now) (column c.store_place.new.masked) (column c.args.self.now.1.now) (column c.store_place-2.new.masked) (index_of c.args.entity) _ _
          (c.in_ok-store_place.ensures.stored alive f (λ m r h p. gives m r (has_left d0 d1 m h) p))
          (put_same (column c.args.self.now.1.now) (column c.store_place-2.new.masked) (index_of c.args.entity) c.in_err-store_place-2.ensures.err);
    })

pub returns-in_err-store_place-2-clause-refused : goal.returns-in_err-store_place-2-clause-refused
returns-in_err-store_place-2-clause-refused g c f gives =
    let d0 = (place g.A.ConvertSaveload.conversion).mentions c.args.saved.0 in
    let d1 = (place g.B.ConvertSaveload.conversion).mentions c.args.saved.1 in
    let same : c.from_residual-in_err-store_place-2.result ≡ Err c.in_err-store_place-2.field-0.0 = search rules in
    rw same (storing_right ((place g.A.ConvertSaveload.conversion).unloaded c.args.saved.0) ((place g.B.ConvertSaveload.conversion).unloaded c.args.saved.1) c.in_err-store_place-2.field-0.0 (c.in_err-store_place-2.ensures.refused f (λ m r h p. gives m r (has_right d0 d1 m h) p)))

pub returns-in_err-store_place-2-clause-dead : goal.returns-in_err-store_place-2-clause-dead
returns-in_err-store_place-2-clause-dead g c dead =
    same_two (column c.args.self.now.0.now) (column c.store_place.new.masked) (column c.args.self.now.1.now) (column c.store_place-2.new.masked) (c.in_ok-store_place.ensures.dead dead) (c.in_err-store_place-2.ensures.dead dead)

pub returns-clause-dead : goal.returns-clause-dead
returns-clause-dead g c dead =
    same_two (column c.args.self.now.0.now) (column c.store_place.new.masked) (column c.args.self.now.1.now) (column c.store_place-2.new.masked) (c.in_ok-store_place.ensures.dead dead) (c.in_ok-store_place-2.ensures.dead dead)

pub returns-in_err-store_place-clause-changes : goal.returns-in_err-store_place-clause-changes
returns-in_err-store_place-clause-changes g c = (record { loan = refl; told = c.in_err-store_place.ensures.told }, record { loan = refl; told = start })

pub returns-in_err-store_place-2-clause-changes : goal.returns-in_err-store_place-2-clause-changes
returns-in_err-store_place-2-clause-changes g c = (record { loan = refl; told = c.in_ok-store_place.ensures.told }, record { loan = refl; told = c.in_err-store_place-2.ensures.told })

pub returns-clause-changes : goal.returns-clause-changes
returns-clause-changes g c = (record { loan = refl; told = c.in_ok-store_place.ensures.told }, record { loan = refl; told = c.in_ok-store_place-2.ensures.told })

pub returns-clause-once : goal.returns-clause-once
returns-clause-once g c alive f gives =
    let d0 = (place g.A.ConvertSaveload.conversion).mentions c.args.saved.0 in
    let d1 = (place g.B.ConvertSaveload.conversion).mentions c.args.saved.1 in
    (c.in_ok-store_place.ensures.once alive f (λ m r h p. gives m r (has_left d0 d1 m h) p), c.in_ok-store_place-2.ensures.once alive f (λ m r h p. gives m r (has_right d0 d1 m h) p))
