use Rattle.std.proofs.Common.{◌≡◌, ℕ, ◌∙◌}
use Rattle.std.specs.Prelude.{Option}
use Rattle.std.specs.List.{AllZip}
use Rattle.joins.specs.Indexed.{Indexed}
use Rattle.rayon.proofs.ListFacts.{IfOk-then, AllZip-weaken}
use Rattle.joins_parallel.specs.Cutting.{listed}
use Rattle.joins_parallel.specs.Replacing.{at_index}
use Rattle.joins_parallel.proofs.Replacing.{asked_given}
use Rattle.joins_parallel.proofs.restricted.remade_of.Goals as goal

pub returns-clause-made : goal.returns-clause-made
returns-clause-made g c =
    let P : ℕ → Option g.row.T.Denot → Type 0 = λ i y. (x : Indexed g.row.T.Denot) × (z : g.row.I.Denot) × (x.slot ≡ c.args.storage.now) × (x.index ≡ i) × g.V.Lookup.finds c.args.values.now i z × g.F.Remake.makes c.args.f.now x z y in
    IfOk-then c.ask_each.result _ _ c.ask_each.ensures.asked (λ v a.
    let each : AllZip (λ i o. (y : Option g.row.T.Denot) × P i y × (o ≡ at_index i y)) (listed c.args.cut.now) a.options = AllZip-weaken _ _ (λ i o w. (w.0, (w.1, w.2, w.3, w.4, w.5, w.6), w.7)) _ _ a.each in
    let all = asked_given P (listed c.args.cut.now) a.options each in
    (all.0, all.1, a.values ∙ all.2))
