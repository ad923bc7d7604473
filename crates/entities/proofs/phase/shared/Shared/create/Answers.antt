use Rattle.std.proofs.Common.{◌≡◌, true, false, true≢false, sym, ap, ◌∙◌, arith, Some}
use Rattle.std.proofs.lemmas.Option.{slice_get-get_or}
use Rattle.entities.proofs.Phases.Passes.{drew, next_spent}
use Rattle.entities.specs.Phase.Plan.{phase_of}
use Rattle.entities.proofs.Phases.Given.{gains_none, gains_draw, gains_miss}
use Rattle.entities.proofs.Phases.Seen.{saw_given}
use Rattle.entities.specs.Phase.Laws.{newly_given}
use Rattle.entities.proofs.phase.shared.Shared.create.Goals as goal

pub returns-then-ticket-len-clause-pass : goal.returns-then-ticket-len-clause-pass
returns-then-ticket-len-clause-pass c = drew c.args.self.now.board c.args.pass.now c.draw-ticket.new.pass c.draw-ticket.result c.requires c.if-pass.false c.draw-ticket.ensures.step (λ _. omega arith) (λ h. absurd (true≢false (sym h ∙ c.draw-ticket.ensures.spent ∙ c.if-pass.false)))

pub returns-then-ticket-len-clause-given : goal.returns-then-ticket-len-clause-given
returns-then-ticket-len-clause-given c = (c.draw-ticket.result, c.draw-ticket.ensures.step, slice_get-get_or c.args.self.now.board.plan.reserve.items c.draw-ticket.result c.index.result.now (omega arith) ∙ ap Some (sym c.index.ensures))

pub returns-clause-pass : goal.returns-clause-pass
returns-clause-pass c = drew c.args.self.now.board c.args.pass.now _ c.draw-ticket.result c.requires c.if-pass.false (next_spent c.args.pass.now c.draw-ticket.new.pass true _ c.draw-ticket.ensures.step) (λ (h : true ≡ false). absurd (true≢false h)) (λ _. omega arith)

pub returns-then-ticket-len-clause-gains : goal.returns-then-ticket-len-clause-gains
returns-then-ticket-len-clause-gains c = let given = returns-then-ticket-len-clause-given c in gains_draw (phase_of c.args.self.now.board.plan) c.args.pass.now c.draw-ticket.new.pass given.0 _ given.1 given.2

pub returns-then-ticket-len-clause-own : goal.returns-then-ticket-len-clause-own
returns-then-ticket-len-clause-own c = newly_given (phase_of c.args.self.now.board.plan) c.args.pass.now c.draw-ticket.new.pass _ _ (returns-then-ticket-len-clause-gains c)

pub returns-then-ticket-len-clause-seen : goal.returns-then-ticket-len-clause-seen
returns-then-ticket-len-clause-seen c = let given = returns-then-ticket-len-clause-given c in saw_given (phase_of c.args.self.now.board.plan) c.args.pass.now c.draw-ticket.new.pass given.0 _ given.1 given.2

pub returns-then-pass-clause-nothing : goal.returns-then-pass-clause-nothing
returns-then-pass-clause-nothing c = gains_none (phase_of c.args.self.now.board.plan) c.args.pass.now

pub returns-clause-nothing : goal.returns-clause-nothing
returns-clause-nothing c = gains_miss (phase_of c.args.self.now.board.plan) c.args.pass.now _ c.draw-ticket.result (next_spent c.args.pass.now c.draw-ticket.new.pass true _ c.draw-ticket.ensures.step) (omega arith)
