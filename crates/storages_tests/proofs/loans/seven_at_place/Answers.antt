use Rattle.std.proofs.Common.{◌∙◌, ap, is_some, List}
use Rattle.std.specs.List.{slice_get}
use Rattle.std.proofs.lemmas.List.{length-set}
use Rattle.storages.specs.SliceLends.{left_as-same}
use Rattle.storages_tests.proofs.Slices.{given, within, get-set}
use Rattle.storages_tests.proofs.loans.seven_at_place.Goals as goal

pub returns : goal.returns
returns c =
    let xs = c.as_mut_slice.result.now in
    c.as_mut_slice.ensures.each _ c.args.id ∙ given _ _ c.requires
    ∙ ap (λ (ys : List _). slice_get ys c.args.id) (left_as-same xs _ (length-set xs c.args.id _))
    ∙ get-set xs c.args.id _ (within xs c.args.id (ap is_some (c.as_mut_slice.ensures.places c.args.id c.requires) ∙ c.requires))
