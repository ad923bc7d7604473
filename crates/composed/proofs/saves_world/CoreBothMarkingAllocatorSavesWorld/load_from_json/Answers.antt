use Rattle.std.proofs.Common.{ap}
use Rattle.composed.proofs.Loaded.{not_loaded}
use Rattle.composed.proofs.saves_world.CoreBothMarkingAllocatorSavesWorld.load_from_json.Goals as goal

pub returns-clause-loaded : goal.returns-clause-loaded
returns-clause-loaded g c = rw c.parts.ensures.value at c.load_from_json.ensures.loaded

pub returns-clause-refused : goal.returns-clause-refused
returns-clause-refused g c = not_loaded (λ e. ap (λ p. record { parts = p; alloc = c.args.self.now.alloc }) e) c.load_from_json.result _ _ _ _ _ (rw c.parts.ensures.value at c.load_from_json.ensures.refused)
