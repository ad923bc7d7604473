use Rattle.std.proofs.Common.{◌≡◌, ℕ, ◌<◌, ◌-◌, ◌^◌, take, length, ◌++◌, List}
use Rattle.std.specs.List.{flat_map}
use Rattle.entities.specs.declared.entity.Entity.{Entity}
use Rattle.entities.specs.Census.{population}
use Rattle.saveload.specs.Conversion.{Has, AllNamed}
use Rattle.storages.specs.WriteView.{slot, storage_name, entities_of, found}
use Rattle.saveload.specs.Marking.{MarksInTurn}
use Rattle.saveload.specs.Closing.{marked_in, new_in, HasMarked, LeadsTo, IsMentioned, MarksSome}
use Rattle.saveload.proofs.marking.mark_all.Given as goal

abbrev pub invariant-loop-i : goal.invariant-loop-i
invariant-loop-i g l = (storage_name l.markers ≡ storage_name l.fn.markers) × (entities_of l.markers ≡ entities_of l.fn.markers)
    × (l.list.items ≡ l.fn.list.items ++ new_in (marked_in (slot l.fn.markers)) (flat_map (λ e. g.P.SerializeComponents.conversion.references (g.P.SerializeComponents.values l.places e)) (take l.i l.list.items)))
    × HasMarked (slot l.fn.markers) (slot l.markers) (new_in (marked_in (slot l.fn.markers)) (flat_map (λ e. g.P.SerializeComponents.conversion.references (g.P.SerializeComponents.values l.places e)) (take l.i l.list.items)))
    × ((j : ℕ) → j < l.i → j < length (l.fn.list.items ++ new_in (marked_in (slot l.fn.markers)) (flat_map (λ e. g.P.SerializeComponents.conversion.references (g.P.SerializeComponents.values l.places e)) (take j l.list.items))))
    × ((e : Entity) → Has l.list.items e → LeadsTo (λ e. g.P.SerializeComponents.conversion.references (g.P.SerializeComponents.values l.places e)) l.fn.list.items e)
    × ((e : Entity) → Has (take l.i l.list.items) e → AllNamed (λ x. found l.markers x) (g.P.SerializeComponents.conversion.references (g.P.SerializeComponents.values l.places e)))
    × MarksSome (population (entities_of l.fn.markers)) (IsMentioned (λ e. g.P.SerializeComponents.conversion.references (g.P.SerializeComponents.values l.places e)) l.fn.list.items) (slot l.fn.markers) (slot l.markers)
    × ((added : List Entity) × (l.list.items ≡ l.fn.list.items ++ added) × MarksInTurn g.M.Marker.id_of g.M.Identifier.PartialEq.eq g.A.MarkerAllocator.MayBeNew g.A.MarkerAllocator.mapping g.A.IdSupply.ids l.fn.allocator (slot l.fn.markers) added l.allocator (slot l.markers))

abbrev pub decreases-loop-i : goal.decreases-loop-i
decreases-loop-i g l = 2 ^ 64 - l.i
