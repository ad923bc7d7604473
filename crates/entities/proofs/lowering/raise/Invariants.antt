use Rattle.std.proofs.Common.{◌≡◌, ℕ, ℤ, List, take, length, get_or, pos, cond}
use Rattle.std.specs.List.{All}
use Rattle.entities.specs.Deaths.{has_index}
use Rattle.entities.specs.Lowered.{IsOneOf}
use Rattle.entities.proofs.lowering.raise.Given as goal

abbrev pub invariant-loop-e : goal.invariant-loop-e
invariant-loop-e l = record { len : length l.generations ≡ length l.fn.generations; raised : (gs : List ℤ) → All (IsOneOf gs) l.list → (i : ℕ) → get_or l.generations i (pos 0) ≡ cond (has_index (take l.e-index l.list) i) (get_or gs i (pos 0)) (get_or l.fn.generations i (pos 0)) }
