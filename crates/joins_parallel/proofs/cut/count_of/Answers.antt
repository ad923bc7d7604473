use Rattle.std.proofs.Common.{length, length-append, flat_map, arith, ap, ◌∙◌}
use Rattle.hibits.specs.Left.{left-length}
use Rattle.hibits.specs.Words.{words_from, words-left, indices_of}
use Rattle.joins_parallel.proofs.cut.count_of.Goals as goal

pub overflow_add-count : goal.overflow_add-count
overflow_add-count g c =
    let total = ap length (words-left (g.M.Layers.has c.args.mask 0) 0) in
    let most = left-length (g.M.Layers.has c.args.mask 0) 0 in
    let step = ap (λ ws. length (flat_map indices_of ws)) c.in-Some.ensures.items in
    let sum = length-append (indices_of (c.in-Some.place, c.in-Some.word)) (flat_map indices_of (words_from (g.M.Layers.has c.loop-place.walk.mask 0) c.next.new.self.position)) in
    let count = c.count-count.ensures ∙ ap (λ w. length (indices_of w)) c.new.ensures in
    let so_far = c.loop-place.invariant.1 in
    omega (arith, total, most, step, sum, count, so_far)

pub returns : goal.returns
returns g c =
    let total = ap length (words-left (g.M.Layers.has c.args.mask 0) 0) in
    let done = c.loop-place.invariant.1 in
    let none = ap (λ ws. length (flat_map indices_of ws)) c.in_default.ensures.items in
    omega (arith, total, done, none)
