use Rattle.std.proofs.Common.{rules}
use Rattle.entities.specs.Population.{index_of}
use Rattle.storages.specs.WriteView.{slot, found}
use Rattle.saveload.specs.Told.{IsTold}
use Rattle.saveload.proofs.Telling.{removal_told}
use Rattle.saveload.proofs.load.take_out.Goals as goal

pub returns-clause-told : goal.returns-clause-told
returns-clause-told g c =
    let told : IsTold (slot c.new.result) (slot c.remove.new.self) = removal_told (slot c.new.result) (slot c.remove.new.self) (index_of c.args.entity) (found c.new.result c.args.entity) c.remove.result c.remove.ensures.removed c.remove.ensures.err c.remove.ensures.absent in
    search rules
