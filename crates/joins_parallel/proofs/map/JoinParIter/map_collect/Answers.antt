use Rattle.std.proofs.Common.{ap, ◌∙◌, length, nat_le}
use Rattle.rayon.proofs.ListFacts.{IfOk-then, AllZip-weaken}
use Rattle.hibits.specs.Left.{left, left-length}
use Rattle.hibits.specs.Words.{words-empty}
use Rattle.joins_parallel.specs.declared.cut.TheConstants.{LEAST_WORDS}
use Rattle.joins_parallel.proofs.Replacing.{each_of}
use Rattle.joins_parallel.proofs.map.JoinParIter.map_collect.Goals as goal

pub map_each-requires-clause-called : goal.map_each-requires-clause-called
map_each-requires-clause-called g c κs out k d lt x w =
    let e = c.in_ok-cut.ensures.indices ∙ ap (λ p. left p 0) (λ t i. c.open-mask.ensures.mask i t) in
    c.requires.called _ x (each_of (g.J.Join.has c.args.self.join) _ e k d lt) (c.open-mask.ensures.gives _ x (g.met.J.RepeatableJoin.same _ _ x w))

pub map_each-requires-clause-ready : goal.map_each-requires-clause-ready
map_each-requires-clause-ready g c κs out k d lt =
    let e = c.in_ok-cut.ensures.indices ∙ ap (λ p. left p 0) (λ t i. c.open-mask.ensures.mask i t) in
    g.met.J.RepeatableJoin.ready _ _ (c.open-mask.ensures.ready _ (each_of (g.J.Join.has c.args.self.join) _ e k d lt))

pub map_each-requires-clause-few : goal.map_each-requires-clause-few
map_each-requires-clause-few g c κs out = rw c.in_ok-cut.ensures.indices (left-length _ 0)

pub returns-clause-made : goal.returns-clause-made
returns-clause-made g c =
    let e = c.in_ok-cut.ensures.indices ∙ ap (λ p. left p 0) (λ t i. c.open-mask.ensures.mask i t) in
    IfOk-then c.map_each.result _ _ c.map_each.ensures.made (λ v h. rw e at (AllZip-weaken (λ i y. (x : g.row.J-Type.Denot) × g.J.Value.Lookup.finds c.open-mask.result.1 i x × goal.F-post g c.args.f x y) (λ i y. (x : g.row.J-Type.Denot) × g.J.Join.gives c.args.self.join i x × goal.F-post g c.args.f x y) (λ i y w. (w.0, c.open-mask.ensures.gives i w.0 (g.met.J.RepeatableJoin.same _ i w.0 w.1), w.2)) _ _ h))

pub returns-clause-idle : goal.returns-clause-idle
returns-clause-idle g c none =
    let tail = ap (λ p. left p 0) (λ t i. c.open-mask.ensures.mask i t) in
    c.map_each.ensures.idle (c.in_ok-cut.ensures.at_words ∙ ap (λ ws. nat_le LEAST_WORDS (length ws)) (words-empty _ 0 (tail ∙ none))) (c.in_ok-cut.ensures.indices ∙ tail ∙ none)
