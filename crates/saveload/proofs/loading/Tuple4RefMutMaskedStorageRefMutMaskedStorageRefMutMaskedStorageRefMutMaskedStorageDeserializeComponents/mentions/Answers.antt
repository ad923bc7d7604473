use Rattle.std.proofs.Common.{◌≡◌, [], ◌++◌, rules}
use Rattle.saveload.specs.Places.{place}
use Rattle.saveload.proofs.Joined.{one_and}
use Rattle.saveload.proofs.loading.Tuple4RefMutMaskedStorageRefMutMaskedStorageRefMutMaskedStorageRefMutMaskedStorageDeserializeComponents.mentions.Goals as goal

pub returns : goal.returns
returns g c =
    let none : c.new-list.result.items ≡ [] = search rules in
    one_and c.new-list.result.items c.add_mentions.new.list.items c.add_three.new.list.items none ((place g.A.ConvertSaveload.conversion).mentions c.args.saved.now.0) (((place g.B.ConvertSaveload.conversion).mentions c.args.saved.now.1) ++ (((place g.C.ConvertSaveload.conversion).mentions c.args.saved.now.2) ++ ((place g.D.ConvertSaveload.conversion).mentions c.args.saved.now.3)))
    c.in_ok-add_mentions.ensures c.in_ok-add_three.ensures
