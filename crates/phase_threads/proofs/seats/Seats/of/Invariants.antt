use Rattle.std.proofs.Common.{◌≡◌, ◌++◌, ◌+◌, ◌≤◌, [], vec_len, vec_capacity}
use Rattle.phase_threads.specs.Seating.{passes_of}
use Rattle.phase_threads.proofs.seats.Seats.of.Given as goal

abbrev pub invariant-loop-pass : goal.invariant-loop-pass
invariant-loop-pass g l = record {
  passes : l.seats.passes.items ++ passes_of l.seats.taken.items ≡ l.fn.passes.items;
  answers : l.seats.answers.items ≡ [];
  for_seats : vec_len l.seats.taken + vec_len l.seats.passes ≤ vec_capacity l.seats.taken;
  for_passes : vec_len l.seats.taken + vec_len l.seats.passes ≤ vec_capacity l.seats.passes;
  for_answers : vec_len l.seats.taken + vec_len l.seats.passes ≤ vec_capacity l.seats.answers;
}

abbrev pub decreases-loop-pass : goal.decreases-loop-pass
decreases-loop-pass g l = goal.left-loop-pass g l
