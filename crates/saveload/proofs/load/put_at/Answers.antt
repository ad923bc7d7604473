use Rattle.std.proofs.Common.{rules}
use Rattle.std.specs.Prelude.{is_some}
use Rattle.std.specs.FinMap as finmap
use Rattle.entities.specs.Population.{index_of}
use Rattle.storages.specs.Slot.{Puts}
use Rattle.storages.specs.WriteView.{slot, entities_of}
use Rattle.saveload.specs.Told.{IsTold}
use Rattle.saveload.proofs.Telling.{same_told, put_told, put_once}
use Rattle.saveload.proofs.load.put_at.Goals as goal

pub returns-in-Ok-clause-told : goal.returns-in-Ok-clause-told
returns-in-Ok-clause-told g c =
    let told : IsTold (slot c.new.result) (slot c.insert.new.self) = put_told (entities_of c.new.result) (slot c.new.result) (slot c.insert.new.self) c.args.entity c.args.value c.in-Ok.ensures.alive c.in-Ok.ensures.ok in
    search rules

pub returns-clause-told : goal.returns-clause-told
returns-clause-told g c =
    let told : IsTold (slot c.new.result) (slot c.insert.new.self) = same_told (slot c.new.result) (slot c.insert.new.self) c.in-Err.ensures.err in
    search rules

pub returns-in-Ok-clause-once : goal.returns-in-Ok-clause-once
returns-in-Ok-clause-once g c =
    let once : Puts (slot c.new.result) (slot c.insert.new.self) (index_of c.args.entity) c.args.value (is_some (finmap.get (slot c.new.result).map (index_of c.args.entity))) = put_once (entities_of c.new.result) (slot c.new.result) (slot c.insert.new.self) c.args.entity c.args.value c.in-Ok.ensures.alive c.in-Ok.ensures.ok in
    search rules
