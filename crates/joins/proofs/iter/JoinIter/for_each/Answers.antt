use Rattle.std.proofs.Common.{◌≡◌, ℕ, ◌≤◌, List, ◌∷◌, arith, sym, ap, ◌∙◌}
use Rattle.hibits.specs.Left.{left}
use Rattle.joins.proofs.FoldLemmas.{first_ahead, step_before}
use Rattle.joins.proofs.iter.JoinIter.for_each.Goals as goal

pub f-requires : goal.f-requires
f-requires g c =
    let s = c.in-Some.ensures.items in
    c.requires.called _ s.0 _ (c.loop-item.invariant.given s.0 _ (first_ahead _ _ _ _ s.1) s.2)

pub loop-item-preserved : goal.loop-item-preserved
loop-item-preserved g c =
    let s = c.in-Some.ensures.items in
    let inv = c.loop-item.invariant in
    let at = c.loop-item.self.keys.position in
    let to = c.next.new.self.keys.position in
    let ahead : at ≤ s.0 = first_ahead _ _ _ _ s.1 in
    let forward = c.in-Some.ensures.forward.0 in
    let same : left (g.J.Mask.Layers.has c.next.new.self.keys.mask 0) to ≡ left (g.J.Mask.Layers.has c.loop-item.self.keys.mask 0) to = ap (λ (m : _). left (g.J.Mask.Layers.has m 0) to) c.in-Some.ensures.mask in
    record {
      given = λ i r ge h. inv.given i r (omega (arith, ge, forward)) (c.in-Some.ensures.later_gives i r ge h);
      calls = λ last h. inv.calls last (step_before _ _ _ _ s.0 _ _ (s.1 ∙ ap (λ (l : List ℕ). s.0 ∷ l) (sym same)) (_, inv.given s.0 _ ahead s.2, c.f.ensures) h);
    }
