use Rattle.std.proofs.Common.{◌∙◌, ap, length, refl, List}
use Rattle.std.specs.Option.{option_map}
use Rattle.std.proofs.lemmas.List.{length-map}
use Rattle.storages.specs.Slices.{item_beside}
use Rattle.storages.specs.SliceLends.{left_as-same}
use Rattle.storages_tests.specs.Doubled.{doubled}
use Rattle.storages_tests.proofs.Slices.{mapped, beside-map}
use Rattle.storages_tests.proofs.loans.double_all.Goals as goal

pub returns : goal.returns
returns c q =
    let xs = c.as_mut_slice.result.now in
    let order = c.args.masked.now.order in
    c.as_mut_slice.ensures.each _ q
    ∙ mapped doubled _ _ _ refl (λ h.
    ap (λ (ys : List _). item_beside order ys q) (left_as-same xs _ (ap (λ (ys : List _). length ys) c.double_each.ensures ∙ length-map xs doubled) ∙ c.double_each.ensures)
    ∙ beside-map doubled order xs q ∙ ap (option_map doubled) (c.as_mut_slice.ensures.places q h))
