use Rattle.std.proofs.Common.{◌∙◌, ap, List, get_or, slice_set}
use Rattle.storages_tests.specs.declared.components.InDense.{InDense}
use Rattle.storages_tests.specs.Doubled.{doubled}
use Rattle.storages_tests.proofs.Slices.{map_at}
use Rattle.storages_tests.proofs.loans.double_each.Goals as goal

pub loop-i-preserved : goal.loop-i-preserved
loop-i-preserved c =
    let zeroed : InDense = record { 0 = 0 } in
    ap (λ (vs : List InDense). slice_set vs c.loop-i.i (doubled (get_or vs c.loop-i.i zeroed))) c.loop-i.invariant
    ∙ map_at doubled c.args.values.now c.loop-i.i zeroed c.loop-i-test.true
