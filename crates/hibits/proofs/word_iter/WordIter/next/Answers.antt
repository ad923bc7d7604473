use Rattle.std.proofs.Common.{◌≡◌, [], ◌∷◌, subst}
use Rattle.std.specs.Prelude.{MatchOption}
use Rattle.hibits.specs.WalkOf.{next_place}
use Rattle.hibits.specs.Words.{words_from}
use Rattle.hibits.proofs.WordLemmas.{words_step}
use Rattle.hibits.proofs.word_iter.WordIter.next.Goals as goal

pub returns-clause-items : goal.returns-clause-items
returns-clause-items g c =
    let n = c.next_word.ensures in
    subst (λ s. MatchOption c.next_word.result (words_from (g.M.Layers.has s.mask 0) s.position ≡ []) (λ r. words_from (g.M.Layers.has s.mask 0) s.position ≡ r ∷ words_from (g.M.Layers.has s.mask 0) (next_place c.next_word.new.self)))
    c.self.view_is
    (words_step (g.M.Layers.has c.self.inside.mask 0) _ _ c.next_word.result c.self.invariant.whole n.next n.after n.below n.end)
