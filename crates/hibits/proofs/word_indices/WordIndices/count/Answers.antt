use Rattle.std.proofs.Common.{length, rules, ap, ◌∙◌, sym}
use Rattle.hibits.specs.Words.{indices_of}
use Rattle.hibits.proofs.WordLemmas.{indices_count}
use Rattle.hibits.proofs.word_indices.WordIndices.count.Goals as goal

pub returns : goal.returns
returns c = sym (ap (λ w. length (indices_of w)) (sym c.self.view_is) ∙ indices_count c.self.inside.place c.self.inside.word (search rules))
