use Rattle.std.proofs.Common.{◌≡◌, ◌≤◌, ◌-◌, ◌*◌}
use Rattle.hibits.specs.Counts.{count_below}
use Rattle.std.specs.Mem.Slots.{slots_items}
use Rattle.entities.specs.Census.{population}
use Rattle.entities.specs.Phase.Reserve.{with_marks}
use Rattle.entities.specs.Phase.Rule.{marks_index, marks_below}
use Rattle.entities.proofs.phase.closing.mark_all.Given as goal

abbrev pub invariant-loop-index : goal.invariant-loop-index
invariant-loop-index l = record {
  marked : population l.entities ≡ with_marks (marks_below (slots_items l.ended.words.words) l.index) (population l.fn.entities);
  count : l.marks ≡ count_below (marks_index (slots_items l.ended.words.words)) l.index;
  room : l.entities.room ≡ l.fn.entities.room;
  low : l.marks ≤ l.index;
  within : l.index ≤ 64 * l.ended.plan.width;
}

abbrev pub decreases-loop-index : goal.decreases-loop-index
decreases-loop-index l = 64 * l.ended.plan.width - l.index
