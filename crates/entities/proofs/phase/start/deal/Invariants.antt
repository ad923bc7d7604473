use Rattle.std.proofs.Common.{◌≡◌, ◌-◌, [], length}
use Rattle.entities.specs.Phase.Rule.{blank_lines}
use Rattle.entities.specs.Phase.Board.{AreDealt}
use Rattle.entities.proofs.phase.start.deal.Given as goal

abbrev pub invariant-loop-number : goal.invariant-loop-number
invariant-loop-number l = record {
  seat : l.keeper.table_id ≡ l.initial.keeper.table_id;
  rest : l.keeper.me ≡ (blank_lines l.number (l.count - l.number), []);
  dealt : AreDealt l.words.shared.table_id 0 l.passes.items;
  many : length l.passes.items ≡ l.number;
}
