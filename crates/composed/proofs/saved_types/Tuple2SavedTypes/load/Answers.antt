use Rattle.std.proofs.Common.{rules, inr}
use Rattle.saveload.specs.Places.{place}
use Rattle.saveload.specs.Stops.{PartlyTwo}
use Rattle.saveload.specs.Tuples.{two_places}
use Rattle.composed.specs.Stored.{rows_of_two, TellsTwo, StoresInTwo}
use Rattle.composed.proofs.Loaded.{two_loaded, two_stops}
use Rattle.composed.proofs.saved_types.Tuple2SavedTypes.load.Goals as goal

pub returns-in-Some-Ok-clause-loaded : goal.returns-in-Some-Ok-clause-loaded
returns-in-Some-Ok-clause-loaded g c =
    rw c.in-Some-Ok.field-0-is at (two_loaded g.M.Marker.id_of g.M.Identifier.PartialEq.eq (two_places g.A.ConvertSaveload.conversion g.B.ConvertSaveload.conversion) g.M.Allocator.MarkerAllocator.mapping g.M.Allocator.MarkerAllocator.ids_past
    (λ e. e.markers.field) (λ e. e.allocator) g.F.TwoFields.one g.F.TwoFields.other g.F.TwoFields.with_two rows_of_two TellsTwo c.args.fields.now c.with_two_beside-loaded.new.self _ _ c.in-Ok.ensures.ok
    StoresInTwo _ c.in-Some-Ok.field-0 _ _ _ _ (λ d e x y d' e' x' y' m. search rules) c.in-Some-Ok.ensures.some)

pub returns-in-Some-Err-clause-refused : goal.returns-in-Some-Err-clause-refused
returns-in-Some-Err-clause-refused g c =
    inr (rw c.in-Some-Err.field-0-is at (two_stops g.M.Marker.id_of g.M.Identifier.PartialEq.eq (two_places g.A.ConvertSaveload.conversion g.B.ConvertSaveload.conversion) g.M.Allocator.MarkerAllocator.mapping g.M.Allocator.MarkerAllocator.ids_past
    (λ e. e.markers.field) (λ e. e.allocator) g.F.TwoFields.one g.F.TwoFields.other g.F.TwoFields.with_two rows_of_two TellsTwo c.args.fields.now c.with_two_beside-loaded.new.self _ _ c.in-Ok.ensures.ok
    (PartlyTwo (place g.A.ConvertSaveload.conversion).unloaded (place g.B.ConvertSaveload.conversion).unloaded) _ c.in-Some-Err.field-0 _ _ _ _ (λ d e x y d' e' x' y' m. search rules) c.in-Some-Err.ensures.some))
