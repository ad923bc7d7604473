use Rattle.std.specs.Fn.{CalledAtMut}
use Rattle.specs.specs.Job.Repeating.{CallsInTurn}
use Rattle.specs.specs.Laws.Going.{GoesOn}
use Rattle.specs.specs.World.State.{core_state}
use Rattle.specs.proofs.world.core_parts.Core.repeat.Given as goal

abbrev pub invariant-loop-i : goal.invariant-loop-i
invariant-loop-i g l =
    goal.F-IsAlwaysCallable g l.f × GoesOn (core_state g.S.Held.table g.S.Held.ids l.initial.self) (core_state g.S.Held.table g.S.Held.ids l.self)
    × CallsInTurn (λ f x h y. CalledAtMut g.F.FnMut f x (tt {0}) h y) l._i l.initial.f l.initial.self l.f l.self
