use Rattle.std.proofs.Common.{◌≡◌, ℕ, List, ◌++◌}
use Rattle.std.specs.Prelude.{length}
use Rattle.std.specs.List.{Contains}
use Rattle.std.specs.FinMap as map
use Rattle.joins.specs.ChangeCursor.{values, changes_name, rest, gives}
use Rattle.joins.specs.ChangeVisits.{ValuesCalled}
use Rattle.joins.proofs.cursors.change_join.ChangeJoin.for_each.Given as goal

abbrev pub invariant-loop-id : goal.invariant-loop-id
invariant-loop-id g l = record {
  same_name : changes_name l.self ≡ changes_name l.initial.self;
  given : (i : ℕ) (r : _) → gives l.self i r → gives l.initial.self i r;
  ahead : (q : ℕ) → Contains (rest l.self) q → map.get (values l.self) q ≡ map.get (values l.initial.self) q;
  calls : (done : List ℕ) × (rest l.initial.self ≡ done ++ rest l.self) × ValuesCalled (gives l.initial.self) (goal.F-step g) done l.initial.f (values l.initial.self) l.f (values l.self);
}

abbrev pub decreases-loop-id : goal.decreases-loop-id
decreases-loop-id g l = length (rest l.self)
