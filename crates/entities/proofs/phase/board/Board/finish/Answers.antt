use Rattle.std.proofs.Common.{rules, ap}
use Rattle.entities.specs.Phase.Rule.{Seats}
use Rattle.std.specs.Mem.Slots.{slots_items}
use Rattle.entities.specs.Phase.Board.{record_of}
use Rattle.entities.specs.Phase.Plan.{phase_of}
use Rattle.entities.proofs.Phases.Keeps.{sits}
use Rattle.entities.proofs.Phases.Ends.{ended, homes}
use Rattle.entities.proofs.phase.board.Board.finish.Goals as goal

pub load_new_seat-requires : goal.load_new_seat-requires
load_new_seat-requires c = let key = c.args.self.words.shared.key in (search rules, sits (phase_of key) key.width c.args.self.words.shared.table_id.slots)

pub gather-requires-clause-passes : goal.gather-requires-clause-passes
gather-requires-clause-passes c = homes c.args.self c.args.passes.items c.requires

pub returns-clause-ended : goal.returns-clause-ended
returns-clause-ended c = let v = c.close_with.ensures.values in
    ended c.args.self.plan c.args.self.words.shared.key (slots_items c.close_with.result.words) (slots_items c.close_with.result.slots) c.gather.new.keeper.id c.gather.new.keeper.me.0 (record_of c.args.passes.items)
    c.args.self.keyed (ap (λ (m : Seats). m.0) c.gather.ensures.1) v.2
