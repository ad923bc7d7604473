use Rattle.std.proofs.Common.{arith, rules, refl}
use Rattle.hibits.specs.Left.{left-next, left-none}
use Rattle.hibits.proofs.StepLemmas.{ended, is_next, is_below, member_taken, end0_from}
use Rattle.hibits.proofs.walk.Walk.next.Goals as goal

pub returns-then-not-fill0-clause-end : goal.returns-then-not-fill0-clause-end
returns-then-not-fill0-clause-end g c i ge lt is =
    let f = c.fill0.ensures in
    ended _ _ (g.met.M.Layers.covers c.args.mask.now) _ f.walk (f.none (search rules)) i (rw f.position ge) lt is

pub returns-then-not-fill0-clause-items : goal.returns-then-not-fill0-clause-items
returns-then-not-fill0-clause-items g c =
    let f = c.fill0.ensures in
    left-none _ _ (λ i ge lt is. ended _ _ (g.met.M.Layers.covers c.args.mask.now) _ f.walk (f.none (search rules)) i (rw f.position ge) lt is)

pub least-index-requires-clause-end : goal.least-index-requires-clause-end
least-index-requires-clause-end g c =
    let f = c.fill0.ensures in
    end0_from _ _ (g.met.M.Layers.covers c.args.mask.now) _ f.walk (f.some (search rules))

pub returns-clause-walk : goal.returns-clause-walk
returns-clause-walk g c =
    let f = c.fill0.ensures in
    member_taken _ _ (g.met.M.Layers.covers c.args.mask.now) _ f.walk c.least-index.result (f.some (search rules)) c.least-index.ensures _ refl

pub returns-clause-next : goal.returns-clause-next
returns-clause-next g c =
    let f = c.fill0.ensures in
    let n = is_next _ _ (g.met.M.Layers.covers c.args.mask.now) _ f.walk c.least-index.result (f.some (search rules)) c.least-index.ensures in
    rw f.position at n

pub returns-clause-below : goal.returns-clause-below
returns-clause-below g c =
    let f = c.fill0.ensures in
    is_below _ _ (g.met.M.Layers.covers c.args.mask.now) _ f.walk c.least-index.result (f.some (search rules)) c.least-index.ensures

pub returns-clause-items : goal.returns-clause-items
returns-clause-items g c =
    let f = c.fill0.ensures in
    let n = is_next _ _ (g.met.M.Layers.covers c.args.mask.now) _ f.walk c.least-index.result (f.some (search rules)) c.least-index.ensures in
    let b = is_below _ _ (g.met.M.Layers.covers c.args.mask.now) _ f.walk c.least-index.result (f.some (search rules)) c.least-index.ensures in
    left-next _ _ _ b (rw f.position at n)

pub returns-clause-forward : goal.returns-clause-forward
returns-clause-forward g c =
    let f = c.fill0.ensures in
    let n = is_next _ _ (g.met.M.Layers.covers c.args.mask.now) _ f.walk c.least-index.result (f.some (search rules)) c.least-index.ensures in
    omega (arith, n.from_on, f.position)
