use Rattle.std.proofs.Common.{◌≡◌, ◌++◌, ◌+◌, ◌≤◌, map, Some, IsSome, vec_len, vec_capacity}
use Rattle.std.specs.List.{All}
use Rattle.phase_threads.specs.Seating.{passes_of, answers_of}
use Rattle.phase_threads.proofs.seats.Seats.parted.Given as goal

abbrev pub invariant-loop-seat : goal.invariant-loop-seat
invariant-loop-seat g l = record {
  passes : l.passes.items ++ passes_of l.taken.items ≡ passes_of l.fn.self.taken.items;
  answers : map Some l.answers.items ++ answers_of l.taken.items ≡ answers_of l.fn.self.taken.items;
  answered : All (λ s. IsSome s.answer) l.taken.items;
  for_passes : vec_len l.passes + vec_len l.taken ≤ vec_capacity l.passes;
  for_answers : vec_len l.answers + vec_len l.taken ≤ vec_capacity l.answers;
}

abbrev pub decreases-loop-seat : goal.decreases-loop-seat
decreases-loop-seat g l = goal.left-loop-seat g l
