use Rattle.std.proofs.Common.{◌≡◌, arith, rules, of_calls, subst}
use Rattle.std.specs.Fn.{CalledAtMut}
use Rattle.specs.proofs.Going.{then_on}
use Rattle.specs.proofs.Repeating.{one_call_more}
use Rattle.specs.specs.Job.Repeating.{CallsInTurn}
use Rattle.specs.proofs.world.core_parts.Core.repeat.Goals as goal

pub loop-i-preserved : goal.loop-i-preserved
loop-i-preserved g c = (
  search (of_calls),
  then_on _ _ _ c.loop-i.invariant.1 (c.requires.goes_on c.loop-i.f c.loop-i.self c.f.new.self c.f.new.arg2 (search rules)),
  one_call_more _ c.args.f c.args.self.now c.loop-i._i c.loop-i.f c.loop-i.self c.f.new.self c.f.new.arg2 c.loop-i.invariant.2 (search rules),
)

pub returns-clause-calls : goal.returns-clause-calls
returns-clause-calls g c =
    let all : c.loop-i._i ≡ c.args.count = omega (arith, c.loop-i-test.false, c.loop-i.auto._i-end) in
    (c.loop-i.f, subst (λ n. CallsInTurn (λ f x h y. CalledAtMut g.F.FnMut f x (tt {0}) h y) n c.args.f c.args.self.now c.loop-i.f c.loop-i.self) all c.loop-i.invariant.2)
