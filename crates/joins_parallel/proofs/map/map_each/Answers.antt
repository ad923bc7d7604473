use Rattle.std.proofs.Common.{◌≡◌, ℕ, Some, arith}
use Rattle.std.specs.List.{AllZip}
use Rattle.rayon.proofs.ListFacts.{IfOk-then, AllZip-weaken}
use Rattle.joins_parallel.specs.Cutting.{listed}
use Rattle.joins_parallel.proofs.Replacing.{asked_each, asked_few}
use Rattle.joins_parallel.proofs.map.map_each.Goals as goal

pub side_by_side-requires : goal.side_by_side-requires
side_by_side-requires g c =
    let few = asked_few _ _ _ c.in_ok-parts.ensures.asked in
    let all = c.requires.few in
    omega (arith, few, all)

pub returns-clause-made : goal.returns-clause-made
returns-clause-made g c =
    let P : ℕ → g.row.R.Denot → Type 0 = λ i y. (x : g.row.T.Denot) × g.V.Lookup.finds c.args.values.now i x × goal.F-post g c.args.f.now x y in
    let a = c.in_ok-parts.ensures.asked in
    let each : AllZip (λ i o. (y : g.row.R.Denot) × P i y × (o ≡ Some y)) (listed c.args.cut.now) a.options = AllZip-weaken _ _ (λ i o w. (w.0, (w.1, w.2, w.3), w.4)) _ _ a.each in
    IfOk-then c.side_by_side.result _ _ c.side_by_side.ensures.items (λ v h. rw (h, a.values) (asked_each P (listed c.args.cut.now) a.options each))

pub returns-clause-idle : goal.returns-clause-idle
returns-clause-idle g c by_indices none = c.side_by_side.ensures.idle (c.in_ok-parts.ensures.idle by_indices none)
