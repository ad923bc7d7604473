use Rattle.std.proofs.Common.{◌≡◌, ℕ, List, ◌++◌, length}
use Rattle.hibits.specs.Words.{indices_of}
use Rattle.joins_parallel.specs.Cutting.{AsksMore}
use Rattle.joins_parallel.proofs.pieces.ask_word.Given as goal

abbrev pub invariant-loop-i : goal.invariant-loop-i
invariant-loop-i g l = (done : List ℕ) × (done ++ indices_of l.rest ≡ indices_of l.fn.word) × AsksMore (λ i o. goal.F-post g l.f i o) done l.initial.made.items l.made.items

abbrev pub decreases-loop-i : goal.decreases-loop-i
decreases-loop-i g l = length (indices_of l.rest)
