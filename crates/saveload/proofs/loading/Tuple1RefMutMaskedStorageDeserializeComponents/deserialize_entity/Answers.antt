use Rattle.std.proofs.Common.{rules, ◌≡◌, refl}
use Rattle.std.specs.Prelude.{Err}
use Rattle.saveload.specs.Loads.{column}
use Rattle.saveload.proofs.Putting.{put_one, same_one, put_same}
use Rattle.entities.specs.Population.{index_of}
use Rattle.saveload.proofs.loading.Tuple1RefMutMaskedStorageDeserializeComponents.deserialize_entity.Goals as goal

pub returns-clause-rows : goal.returns-clause-rows
returns-clause-rows g c alive f gives =
    put_one (column c.args.self.now.0.now) (column c.store_place.new.masked) (index_of c.args.entity) _
    (c.in_ok-store_place.ensures.stored alive f (λ m r h p. gives m r h p))

pub returns-in_err-store_place-clause-stopped : goal.returns-in_err-store_place-clause-stopped
returns-in_err-store_place-clause-stopped g c alive =
    let same : c.from_residual.result ≡ Err c.in_err-store_place.field-0.0 = search rules in
    rw same (λ f gives. record {
      mid = _;
      part = (c.in_err-store_place.ensures.refused f (λ m r h p. gives m r h p), refl);
      rows = put_one (column c.args.self.now.0.now) (column c.store_place.new.masked) (index_of c.args.entity) _
          (put_same (column c.args.self.now.0.now) (column c.store_place.new.masked) (index_of c.args.entity) c.in_err-store_place.ensures.err);
    })

pub returns-in_err-store_place-clause-refused : goal.returns-in_err-store_place-clause-refused
returns-in_err-store_place-clause-refused g c f gives =
    let same : c.from_residual.result ≡ Err c.in_err-store_place.field-0.0 = search rules in
    rw same (c.in_err-store_place.ensures.refused f (λ m r h p. gives m r h p))

pub returns-in_err-store_place-clause-dead : goal.returns-in_err-store_place-clause-dead
returns-in_err-store_place-clause-dead g c dead =
    same_one (column c.args.self.now.0.now) (column c.store_place.new.masked) (c.in_err-store_place.ensures.dead dead)

pub returns-clause-dead : goal.returns-clause-dead
returns-clause-dead g c dead =
    same_one (column c.args.self.now.0.now) (column c.store_place.new.masked) (c.in_ok-store_place.ensures.dead dead)

pub returns-clause-changes : goal.returns-clause-changes
returns-clause-changes g c = record { loan = refl; told = c.in_ok-store_place.ensures.told }

pub returns-in_err-store_place-clause-changes : goal.returns-in_err-store_place-clause-changes
returns-in_err-store_place-clause-changes g c = record { loan = refl; told = c.in_err-store_place.ensures.told }
