use Rattle.std.proofs.Common.{◌≡◌, take, ◌++◌, List}
use Rattle.entities.specs.declared.entity.Entity.{Entity}
use Rattle.entities.specs.Census.{population}
use Rattle.saveload.specs.Conversion.{Has, AllNamed}
use Rattle.storages.specs.WriteView.{slot, storage_name, entities_of, found}
use Rattle.saveload.specs.Marking.{MarksInTurn}
use Rattle.saveload.specs.Closing.{marked_in, new_in, HasMarked, MarksSome}
use Rattle.saveload.proofs.marking.mark_references.Given as goal

abbrev pub invariant-loop-x : goal.invariant-loop-x
invariant-loop-x g l = (storage_name l.markers ≡ storage_name l.fn.markers) × (entities_of l.markers ≡ entities_of l.fn.markers)
    × (l.list.items ≡ l.fn.list.items ++ new_in (marked_in (slot l.fn.markers)) (take l.x-index l.references))
    × HasMarked (slot l.fn.markers) (slot l.markers) (new_in (marked_in (slot l.fn.markers)) (take l.x-index l.references))
    × AllNamed (λ e. found l.markers e) (take l.x-index l.references)
    × MarksSome (population (entities_of l.fn.markers)) (Has l.references) (slot l.fn.markers) (slot l.markers)
    × ((added : List Entity) × (l.list.items ≡ l.fn.list.items ++ added) × MarksInTurn g.M.Marker.id_of g.M.Identifier.PartialEq.eq g.A.MarkerAllocator.MayBeNew g.A.MarkerAllocator.mapping g.A.IdSupply.ids l.fn.allocator (slot l.fn.markers) added l.allocator (slot l.markers))
