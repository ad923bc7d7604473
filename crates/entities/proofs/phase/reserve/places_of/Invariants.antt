use Rattle.std.proofs.Common.{◌≡◌, length}
use Rattle.entities.specs.Phase.Plan.{ArePlaced}
use Rattle.entities.proofs.phase.reserve.places_of.Given as goal

abbrev pub invariant-loop-place : goal.invariant-loop-place
invariant-loop-place l = record { len : length l.places.items ≡ l.born; placed : ArePlaced l.reserve l.born l.place l.places.items }
