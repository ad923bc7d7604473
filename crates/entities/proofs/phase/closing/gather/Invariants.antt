use Rattle.std.proofs.Common.{◌≡◌, ◌++◌, [], vec_len}
use Rattle.entities.specs.Phase.Trace.{Each}
use Rattle.entities.specs.Phase.Board.{IsHome, record_of}
use Rattle.entities.proofs.phase.closing.gather.Given as goal

abbrev pub invariant-loop-pass : goal.invariant-loop-pass
invariant-loop-pass l = record {
  seat : l.keeper.table_id ≡ l.initial.keeper.table_id;
  bare : l.keeper.me.1 ≡ [];
  rest : record_of l.passes.items ++ l.keeper.me.0 ≡ record_of l.initial.passes.items;
  home : Each (IsHome l.words.shared.table_id) l.passes.items;
}

abbrev pub decreases-loop-pass : goal.decreases-loop-pass
decreases-loop-pass l = vec_len l.passes
