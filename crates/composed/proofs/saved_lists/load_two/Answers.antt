use Rattle.std.proofs.Common.{rules}
use Rattle.composed.specs.Stored.{rows_of_two, TellsTwo, StoresInTwo}
use Rattle.composed.proofs.Loaded.{lent_loaded, lent_stops}
use Rattle.composed.proofs.saved_lists.load_two.Goals as goal

pub returns-clause-loaded : goal.returns-clause-loaded
returns-clause-loaded g c =
    lent_loaded _ _ _ _ _ (λ p. (p.0.now, p.1.now)) rows_of_two _ TellsTwo (λ p q w. (w.0.told, w.1.told)) _ StoresInTwo (λ p q i row w. w) _ c.load_list.result _ _ _ _ _ _ _ _ _ (search rules) c.load_list.ensures.loaded

pub returns-clause-refused : goal.returns-clause-refused
returns-clause-refused g c =
    lent_stops _ _ _ _ _ (λ p. (p.0.now, p.1.now)) rows_of_two _ TellsTwo (λ p q w. (w.0.told, w.1.told)) _ _ c.load_list.result _ _ _ _ _ _ _ _ _ (search rules) c.load_list.ensures.refused
