use Rattle.std.proofs.Common.{◌≡◌, [], ◌++◌, rules}
use Rattle.saveload.specs.Places.{place}
use Rattle.saveload.proofs.Joined.{two_and}
use Rattle.saveload.proofs.loading.Tuple5RefMutMaskedStorageRefMutMaskedStorageRefMutMaskedStorageRefMutMaskedStorageRefMutMaskedStorageDeserializeComponents.mentions.Goals as goal

pub returns : goal.returns
returns g c =
    let none : c.new-list.result.items ≡ [] = search rules in
    two_and c.new-list.result.items c.add_two.new.list.items c.add_three.new.list.items none ((place g.A.ConvertSaveload.conversion).mentions c.args.saved.now.0) ((place g.B.ConvertSaveload.conversion).mentions c.args.saved.now.1) (((place g.C.ConvertSaveload.conversion).mentions c.args.saved.now.2) ++ (((place g.D.ConvertSaveload.conversion).mentions c.args.saved.now.3) ++ ((place g.E.ConvertSaveload.conversion).mentions c.args.saved.now.4)))
    c.in_ok-add_two.ensures c.in_ok-add_three.ensures
