use Rattle.std.proofs.Common.{ap, ◌∙◌, flat_map, rules}
use Rattle.std.specs.Prelude.{IsOk}
use Rattle.hibits.specs.Words.{words-left, words-empty, indices_of}
use Rattle.joins_parallel.proofs.cut.cut_of.Goals as goal

pub returns-then-len-ge-LEAST_WORDS-clause-indices : goal.returns-then-len-ge-LEAST_WORDS-clause-indices
returns-then-len-ge-LEAST_WORDS-clause-indices g c = ap (flat_map indices_of) c.in_ok-words.ensures.items ∙ words-left (g.M.Layers.has c.args.mask 0) 0

pub returns-clause-indices : goal.returns-clause-indices
returns-clause-indices g c =
    c.in_ok-indices_in.ensures.items ∙ ap (flat_map indices_of) (c.deref.ensures.value ∙ c.in_ok-words.ensures.items) ∙ words-left (g.M.Layers.has c.args.mask 0) 0

pub returns-in_err-indices_in-clause-idle : goal.returns-in_err-indices_in-clause-idle
returns-in_err-indices_in-clause-idle g c none =
    let idle : IsOk c.indices_in.result = c.indices_in.ensures.idle (c.deref.ensures.value ∙ c.in_ok-words.ensures.items ∙ words-empty (g.M.Layers.has c.args.mask 0) 0 none) in
    search rules
