use Rattle.std.proofs.Common.{◌<◌, arith, rules, ◌∙◌}
use Rattle.hibits.proofs.StepLemmas.{place1, end1_from, end1_fits, step0, grows}
use Rattle.hibits.proofs.walk.Walk.fill0.Goals as goal

pub descend-self-requires-clause-within : goal.descend-self-requires-clause-within
descend-self-requires-clause-within g c =
    end1_from _ _ (g.met.M.Layers.covers c.args.mask.now) _ c.fill1.ensures.walk (c.fill1.ensures.some (search rules))

pub descend-self-requires-clause-fits : goal.descend-self-requires-clause-fits
descend-self-requires-clause-fits g c = end1_fits _ _ (g.met.M.Layers.covers c.args.mask.now) _ c.fill1.ensures.walk

pub loop-self-smaller : goal.loop-self-smaller
loop-self-smaller g c =
    let f = c.fill1.ensures in
    let p = place1 _ _ (g.met.M.Layers.covers c.args.mask.now) _ f.walk (f.some (search rules)) in
    let fits = end1_fits _ _ (g.met.M.Layers.covers c.args.mask.now) _ f.walk in
    omega (arith, p, fits, c.descend-self.ensures.end, f.nearer, f.end0)

pub loop-self-preserved : goal.loop-self-preserved
loop-self-preserved g c =
    let f = c.fill1.ensures in
    let d = c.descend-self.ensures in
    let i = c.loop-self.invariant in
    let some : 0 < c.fill1.new.self.word1 = f.some (search rules) in
    let p = place1 _ _ (g.met.M.Layers.covers c.args.mask.now) _ f.walk some in
    let fits = end1_fits _ _ (g.met.M.Layers.covers c.args.mask.now) _ f.walk in
    let e1 = f.end0 in
    let e2 = f.word0 in
    record {
      walk = step0 _ _ (g.met.M.Layers.covers c.args.mask.now) _ f.walk _ _ _ _ (search rules) d.reads (f.word0 ∙ c.loop-self-test.true) some d.above d.end d.bits;
      position = f.position ∙ i.position;
      reads = grows _ _ _ (omega (arith, i.reads, f.reads)) (search rules) d.reads;
    }
