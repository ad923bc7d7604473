use Rattle.std.proofs.Common.{rules, ◌≡◌, ℕ, List, sym, ap, ◌∙◌, arith, refl, ◌+◌, ◌-◌, ◌∷◌, [], length, length-append, subst}
use Rattle.entities.specs.Phase.Board.{AreDealt}
use Rattle.entities.specs.declared.phase.trace.Line.{Line}
use Rattle.entities.specs.Phase.Rule.{blank_lines, line, first_line, other_lines, Seats}
use Rattle.entities.specs.Phase.Plan.{phase_of}
use Rattle.entities.proofs.Phases.Keeps.{cuts}
use Rattle.entities.proofs.Phases.Passes.{dealt_push, blank_more}
use Rattle.entities.proofs.phase.start.deal.Goals as goal

pub split_seat-record-requires : goal.split_seat-record-requires
split_seat-record-requires c = let key = c.args.words.now.shared.key in (search rules, search rules, cuts (phase_of key) key.width c.loop-number.keeper.id c.loop-number.keeper.me.0)

pub loop-number-preserved : goal.loop-number-preserved
loop-number-preserved c = let i = c.loop-number.invariant in let s = c.split_seat-record.ensures in
    let more = blank_more c.loop-number.number c.loop-number.number c.args.count (search rules) refl in
    let all : c.loop-number.keeper.me.0 ≡ line c.loop-number.number [] ∷ blank_lines (c.loop-number.number + 1) (c.args.count - (c.loop-number.number + 1)) = ap (λ (m : Seats). m.0) i.rest ∙ more in
    let items = c.in_ok-push.ensures.items in record {
      seat = s.0 ∙ i.seat;
      rest = s.2 ∙ (λ j. (other_lines (all j), (i.rest j).1));
      dealt = subst (AreDealt c.args.words.now.shared.table_id 0) (sym items) (dealt_push c.args.words.now.shared.table_id 0 c.loop-number.number c.loop-number.passes.items _ i.dealt (let m = i.many in omega arith) (s.3 ∙ (i.seat ∙ c.requires.0)) (s.4 ∙ ap (λ (v : List Line). (first_line v, [])) all) refl);
      many = ap length items ∙ (length-append c.loop-number.passes.items (_ ∷ []) ∙ ap (λ (k : ℕ). k + 1) i.many);
    }
