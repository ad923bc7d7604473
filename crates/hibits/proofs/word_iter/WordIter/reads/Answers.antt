use Rattle.std.proofs.Common.{ap}
use Rattle.hibits.proofs.WalkLemmas.{reads_most}
use Rattle.hibits.proofs.word_iter.WordIter.reads.Goals as goal

pub returns-clause-bound : goal.returns-clause-bound
returns-clause-bound g c =
    let most = reads_most _ _ _ _ _ _ c.self.invariant.walk.walk (g.met.M.Layers.few c.self.inside.mask) in
    let same = ap (λ s. s.mask) c.self.view_is in
    rw (c.reads.ensures, ← same) most
