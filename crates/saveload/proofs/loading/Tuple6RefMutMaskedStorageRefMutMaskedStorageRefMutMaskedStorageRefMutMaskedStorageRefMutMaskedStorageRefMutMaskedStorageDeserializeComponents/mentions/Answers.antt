use Rattle.std.proofs.Common.{◌≡◌, [], ◌++◌, rules}
use Rattle.saveload.specs.Places.{place}
use Rattle.saveload.proofs.Joined.{three_and}
use Rattle.saveload.proofs.loading.Tuple6RefMutMaskedStorageRefMutMaskedStorageRefMutMaskedStorageRefMutMaskedStorageRefMutMaskedStorageRefMutMaskedStorageDeserializeComponents.mentions.Goals as goal

pub returns : goal.returns
returns g c =
    let none : c.new-list.result.items ≡ [] = search rules in
    three_and c.new-list.result.items c.add_three.new.list.items c.add_three-2.new.list.items none ((place g.A.ConvertSaveload.conversion).mentions c.args.saved.now.0) ((place g.B.ConvertSaveload.conversion).mentions c.args.saved.now.1) ((place g.C.ConvertSaveload.conversion).mentions c.args.saved.now.2) (((place g.D.ConvertSaveload.conversion).mentions c.args.saved.now.3) ++ (((place g.E.ConvertSaveload.conversion).mentions c.args.saved.now.4) ++ ((place g.G.ConvertSaveload.conversion).mentions c.args.saved.now.5)))
    c.in_ok-add_three.ensures c.in_ok-add_three-2.ensures
