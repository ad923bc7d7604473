use Rattle.std.proofs.Common.{◌≡◌, None, take}
use Rattle.std.specs.HashMap as hash
use Rattle.saveload.specs.Naming.{ids_in}
use Rattle.saveload.specs.Remapping.{put_all}
use Rattle.saveload.proofs.remapping.ids_of.Given as goal

abbrev pub invariant-loop-e : goal.invariant-loop-e
invariant-loop-e g l = hash.get g.M.Identifier.PartialEq.eq l.ids ≡ put_all g.M.Identifier.PartialEq.eq (ids_in g.M.Marker.id_of l.storage) (take l.e-index l.list) (λ _. None)
