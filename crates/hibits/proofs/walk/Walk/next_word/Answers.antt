use Rattle.std.proofs.Common.{◌≡◌, ◌*◌, ◌/◌, arith, rules}
use Rattle.hibits.proofs.StepLemmas.{ended, next_word, word_below, word_taken, end0_from}
use Rattle.hibits.proofs.walk.Walk.next_word.Goals as goal

pub returns-then-not-fill0-clause-end : goal.returns-then-not-fill0-clause-end
returns-then-not-fill0-clause-end g c i ge lt is =
    let f = c.fill0.ensures in
    ended _ _ (g.met.M.Layers.covers c.args.mask.now) _ f.walk (f.none (search rules)) i (rw f.position ge) lt is

pub overflow_sub-result : goal.overflow_sub-result
overflow_sub-result g c =
    let f = c.fill0.ensures in
    let e = end0_from _ _ (g.met.M.Layers.covers c.args.mask.now) _ f.walk (f.some (search rules)) in
    omega arith

pub returns-clause-walk : goal.returns-clause-walk
returns-clause-walk g c =
    let f = c.fill0.ensures in
    let whole : c.fill0.new.self.from ≡ 64 * (c.fill0.new.self.from / 64) = omega (arith, f.position, c.requires.whole) in
    word_taken _ _ (g.met.M.Layers.covers c.args.mask.now) _ f.walk (f.some (search rules)) whole

pub returns-clause-next : goal.returns-clause-next
returns-clause-next g c =
    let f = c.fill0.ensures in
    let whole : c.fill0.new.self.from ≡ 64 * (c.fill0.new.self.from / 64) = omega (arith, f.position, c.requires.whole) in
    rw f.position at (next_word _ _ (g.met.M.Layers.covers c.args.mask.now) _ f.walk (f.some (search rules)) whole)

pub returns-clause-after : goal.returns-clause-after
returns-clause-after g c =
    let f = c.fill0.ensures in
    let e = end0_from _ _ (g.met.M.Layers.covers c.args.mask.now) _ f.walk (f.some (search rules)) in
    let w = f.walk.end0 in
    omega arith

pub returns-clause-below : goal.returns-clause-below
returns-clause-below g c =
    let f = c.fill0.ensures in
    let whole : c.fill0.new.self.from ≡ 64 * (c.fill0.new.self.from / 64) = omega (arith, f.position, c.requires.whole) in
    word_below _ _ (g.met.M.Layers.covers c.args.mask.now) _ f.walk (f.some (search rules)) whole
