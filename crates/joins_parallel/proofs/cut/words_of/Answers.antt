use Rattle.std.proofs.Common.{◌≡◌, [], ◌∷◌, ◌++◌, List, sym, ap, ◌∙◌}
use Rattle.hibits.specs.Words.{words-empty}
use Rattle.joins_parallel.proofs.cut.words_of.Goals as goal

not_nothing : {X : Type 0} (xs ys : List X) (y : X) → xs ++ y ∷ ys ≡ [] → ⊥
not_nothing [] ys y e = cc
not_nothing (x ∷ xs) ys y e = cc

pub returns-in_err-push-clause-idle : goal.returns-in_err-push-clause-idle
returns-in_err-push-clause-idle g c none =
    absurd (not_nothing _ _ _ (ap (λ ws. c.loop-place.words.items ++ ws) (sym c.in-Some.ensures.items) ∙ c.loop-place.invariant.1 ∙ words-empty (g.M.Layers.has c.args.mask 0) 0 none))
