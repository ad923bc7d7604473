use Rattle.std.proofs.Common.{◌<◌, arith, rules, ◌∙◌}
use Rattle.hibits.proofs.StepLemmas.{place3, end3_from, end3_fits, step2, grows}
use Rattle.hibits.proofs.walk.Walk.fill2.Goals as goal

pub descend-self-requires-clause-within : goal.descend-self-requires-clause-within
descend-self-requires-clause-within g c =
    end3_from _ _ (g.met.M.Layers.covers c.args.mask.now) _ c.fill3.ensures.walk (c.fill3.ensures.some (search rules))

pub descend-self-requires-clause-fits : goal.descend-self-requires-clause-fits
descend-self-requires-clause-fits g c = end3_fits _ _ (g.met.M.Layers.covers c.args.mask.now) _ c.fill3.ensures.walk

pub loop-self-smaller : goal.loop-self-smaller
loop-self-smaller g c =
    let f = c.fill3.ensures in
    let p = place3 _ _ (g.met.M.Layers.covers c.args.mask.now) _ f.walk (f.some (search rules)) in
    let fits = end3_fits _ _ (g.met.M.Layers.covers c.args.mask.now) _ f.walk in
    omega (arith, p, fits, c.descend-self.ensures.end, f.nearer, f.end2)

pub loop-self-preserved : goal.loop-self-preserved
loop-self-preserved g c =
    let f = c.fill3.ensures in
    let d = c.descend-self.ensures in
    let i = c.loop-self.invariant in
    let some : 0 < c.fill3.new.self.word3 = f.some (search rules) in
    let p = place3 _ _ (g.met.M.Layers.covers c.args.mask.now) _ f.walk some in
    let fits = end3_fits _ _ (g.met.M.Layers.covers c.args.mask.now) _ f.walk in
    let e1 = f.end2 in
    let e2 = f.word2 in
    record {
      walk = step2 _ _ (g.met.M.Layers.covers c.args.mask.now) _ f.walk _ _ _ _ (search rules) d.reads (f.word2 ∙ c.loop-self-test.true) some d.above d.end d.bits;
      position = f.position ∙ i.position;
      reads = grows _ _ _ (omega (arith, i.reads, f.reads)) (search rules) d.reads;
      word0 = f.word0 ∙ i.word0;
      end0 = f.end0 ∙ i.end0;
      word1 = f.word1 ∙ i.word1;
      end1 = f.end1 ∙ i.end1;
      nearer = omega (arith, p, d.end, i.nearer, f.nearer, fits, e1, e2);
    }
