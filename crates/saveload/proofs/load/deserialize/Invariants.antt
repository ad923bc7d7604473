use Rattle.saveload.specs.Loads.{loading, Loads}
use Rattle.saveload.specs.Told.{IsTold, StoresEach}
use Rattle.saveload.proofs.load.deserialize.Given as goal

abbrev pub invariant-loop-saved : goal.invariant-loop-saved
invariant-loop-saved g l = g.P.DeserializeComponents.Changes l.fn.masked l.masked × IsTold l.fn.markers l.markers × Loads g.M.Marker.id_of g.M.Identifier.PartialEq.eq g.P.DeserializeComponents.conversion
    (loading g.M.Marker.id_of g.M.Allocator.MarkerAllocator.mapping g.M.Allocator.MarkerAllocator.ids_past g.P.DeserializeComponents.rows l.fn.entities l.fn.allocator l.fn.markers l.fn.masked)
    l.yielded
    (loading g.M.Marker.id_of g.M.Allocator.MarkerAllocator.mapping g.M.Allocator.MarkerAllocator.ids_past g.P.DeserializeComponents.rows l.entities l.allocator l.markers l.masked)
    × StoresEach g.P.DeserializeComponents.Stores g.P.DeserializeComponents.conversion l.fn.masked l.yielded l.masked
