use Rattle.std.proofs.Common.{rules, arith, ap, ◌∙◌, sym}
use Rattle.hibits.specs.Words.{indices_of}
use Rattle.hibits.proofs.WordLemmas.{indices_next, indices_none}
use Rattle.hibits.proofs.word_indices.WordIndices.next.Goals as goal

pub returns-then-self-eq0-clause-items : goal.returns-then-self-eq0-clause-items
returns-then-self-eq0-clause-items c =
    ap indices_of (sym c.self.view_is) ∙ ap (λ w. indices_of (c.self.inside.place, w)) c.if-self-eq0.true ∙ indices_none c.self.inside.place

pub returns-clause-items : goal.returns-clause-items
returns-clause-items c =
    ap indices_of (sym c.self.view_is) ∙ indices_next c.self.inside.place c.self.inside.word (search rules) (omega (arith, c.if-self-eq0.false))
