use Rattle.composed.proofs.Loaded.{list_loaded, list_stops}
use Rattle.composed.proofs.saved_lists.load_list.Goals as goal

pub returns-clause-loaded : goal.returns-clause-loaded
returns-clause-loaded g c =
    list_loaded _ _ _ _ _ _ _ _ _ c.deserialize.result _ c.in-Some.markers _ _ _ _ _ _ _ c.in-Some.is c.deserialize.ensures.loaded c.deserialize.ensures.each c.deserialize.ensures.changes c.deserialize.ensures.told

pub returns-clause-refused : goal.returns-clause-refused
returns-clause-refused g c =
    list_stops _ _ _ _ _ _ _ _ _ c.deserialize.result _ c.in-Some.markers _ _ _ _ _ _ _ c.in-Some.is c.deserialize.ensures.refused c.deserialize.ensures.changes c.deserialize.ensures.told
