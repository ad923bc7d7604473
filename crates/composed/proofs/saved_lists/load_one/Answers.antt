use Rattle.std.proofs.Common.{rules}
use Rattle.composed.specs.Stored.{rows_of_one, TellsOne, StoresInOne}
use Rattle.composed.proofs.Loaded.{lent_loaded, lent_stops}
use Rattle.composed.proofs.saved_lists.load_one.Goals as goal

pub returns-clause-loaded : goal.returns-clause-loaded
returns-clause-loaded g c =
    lent_loaded _ _ _ _ _ (λ p. record { 0 = p.0.now }) rows_of_one _ TellsOne (λ p q w. w.told) _ StoresInOne (λ p q i row w. w) _ c.load_list.result _ _ _ _ _ _ _ _ _ (search rules) c.load_list.ensures.loaded

pub returns-clause-refused : goal.returns-clause-refused
returns-clause-refused g c =
    lent_stops _ _ _ _ _ (λ p. record { 0 = p.0.now }) rows_of_one _ TellsOne (λ p q w. w.told) _ _ c.load_list.result _ _ _ _ _ _ _ _ _ (search rules) c.load_list.ensures.refused
