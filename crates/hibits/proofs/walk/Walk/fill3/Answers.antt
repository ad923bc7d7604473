use Rattle.std.proofs.Common.{◌<◌, arith, rules}
use Rattle.hibits.proofs.StepLemmas.{place4, step3, grows}
use Rattle.hibits.proofs.walk.Walk.fill3.Goals as goal

pub loop-self-smaller : goal.loop-self-smaller
loop-self-smaller g c =
    let some : 0 < c.loop-self.self.word4 = omega (arith, c.if-self-eq0.false) in
    let p = place4 _ _ (g.met.M.Layers.covers c.args.mask.now) _ c.loop-self.invariant.walk some in
    omega (arith, p, c.descend-self.ensures.end)

pub loop-self-preserved : goal.loop-self-preserved
loop-self-preserved g c =
    let some : 0 < c.loop-self.self.word4 = omega (arith, c.if-self-eq0.false) in
    let p = place4 _ _ (g.met.M.Layers.covers c.args.mask.now) _ c.loop-self.invariant.walk some in
    let d = c.descend-self.ensures in
    let i = c.loop-self.invariant in
    record {
      walk = step3 _ _ (g.met.M.Layers.covers c.args.mask.now) _ i.walk _ _ _ _ (search rules) d.reads (search rules) some d.above d.end d.bits;
      position = i.position;
      reads = grows _ _ _ i.reads (search rules) d.reads;
      word0 = i.word0;
      end0 = i.end0;
      word1 = i.word1;
      end1 = i.end1;
      word2 = i.word2;
      end2 = i.end2;
      nearer = omega (arith, p, d.end, i.nearer);
    }
