use Rattle.std.proofs.Common.{◌≡◌, ℕ, List, ◌++◌}
use Rattle.std.specs.Prelude.{is_some, length}
use Rattle.std.specs.List.{Contains}
use Rattle.std.specs.FinMap as map
use Rattle.joins.specs.Draining.{slot, storage_name, rest, gives}
use Rattle.joins.specs.Taking.{TakenAtEach}
use Rattle.storages.specs.Meaning.{HasRoom}
use Rattle.joins.proofs.cursors.drain.Drain.for_each.Given as goal

abbrev pub invariant-loop-id : goal.invariant-loop-id
invariant-loop-id g l = record {
  same_name : storage_name l.self ≡ storage_name l.initial.self;
  given : (i : ℕ) (r : _) → gives l.self i r → gives l.initial.self i r;
  ahead : (q : ℕ) → Contains (rest l.self) q → map.get (slot l.self).map q ≡ map.get (slot l.initial.self).map q;
  enough : HasRoom (slot l.initial.self).room (length (rest l.initial.self)) → HasRoom (slot l.self).room (length (rest l.self));
  room : is_some (slot l.self).room ≡ is_some (slot l.initial.self).room;
  calls : (done : List ℕ) × (rest l.initial.self ≡ done ++ rest l.self) × TakenAtEach (gives l.initial.self) (goal.F-step g) done l.initial.f (slot l.initial.self) l.f (slot l.self);
}

abbrev pub decreases-loop-id : goal.decreases-loop-id
decreases-loop-id g l = length (rest l.self)
