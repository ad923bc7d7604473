-- Ways that go on.
use Rattle.std.specs.Prelude.{ℕ, ◌+◌, ◌*◌, ◌%◌, ◌^◌, Option, Some, None}
use Rattle.callers.specs.declared.by_closure.Way.{Way}
use Rattle.callers.specs.declared.by_closure.Pace.{Pace}

-- a way after so many steps at a pace, past the greatest from 0 on
abbrev pub moved : ℕ → Way → Pace → Way
moved steps w p = record { 0 = (w.0 + p.0 * steps % 2 ^ 32) % 2 ^ 32 }

-- the same of one step, where there is a pace
abbrev pub gone_on : Option Pace → Way → Way
gone_on None w = w
gone_on (Some p) w = moved 1 w p

-- where an entity is, or 0
abbrev pub place_at : Option Way → ℕ
place_at None = 0
place_at (Some w) = w.0
