use Rattle.std.proofs.Common.{refl, subst, Bool}
use Rattle.entities.specs.Phase.Calls.{AliveSteps}
use Rattle.entities.proofs.Phases.Calls.{index_within, mark_after, marked_pass, marked_steps}
use Rattle.entities.proofs.Phases.Given.{alive_gains, mark_gains}
use Rattle.entities.proofs.Phases.Seen.{saw_marked}
use Rattle.entities.specs.Phase.Laws.{newly_marked}
use Rattle.entities.specs.Phase.Plan.{phase_of}
use Rattle.entities.proofs.phase.shared.Shared.delete.Goals as goal

pub mark_as-requires-clause-calls : goal.mark_as-requires-clause-calls
mark_as-requires-clause-calls c =
    let alive = subst (λ (b : Bool). AliveSteps c.args.self.now.board c.args.pass.now c.is_alive.new.pass c.args.entity b) c.if-not-is_alive.false c.is_alive.ensures.steps in
    mark_after c.args.self.now.board c.args.pass.now c.is_alive.new.pass c.args.entity c.requires.pass alive

pub mark_as-requires-clause-index : goal.mark_as-requires-clause-index
mark_as-requires-clause-index c =
    let alive = subst (λ (b : Bool). AliveSteps c.args.self.now.board c.args.pass.now c.is_alive.new.pass c.args.entity b) c.if-not-is_alive.false c.is_alive.ensures.steps in
    (refl, index_within c.args.self.now.board c.args.pass.now c.is_alive.new.pass c.args.entity alive)

pub returns-clause-pass : goal.returns-clause-pass
returns-clause-pass c =
    let alive = subst (λ (b : Bool). AliveSteps c.args.self.now.board c.args.pass.now c.is_alive.new.pass c.args.entity b) c.if-not-is_alive.false c.is_alive.ensures.steps in
    marked_pass c.args.self.now.board c.args.pass.now c.is_alive.new.pass c.mark_as.new.pass c.args.entity c.requires.pass alive c.mark_as.ensures.step c.is_alive.ensures.spent c.mark_as.ensures.spent

pub returns-clause-marked : goal.returns-clause-marked
returns-clause-marked c =
    let alive = subst (λ (b : Bool). AliveSteps c.args.self.now.board c.args.pass.now c.is_alive.new.pass c.args.entity b) c.if-not-is_alive.false c.is_alive.ensures.steps in
    marked_steps c.args.self.now.board c.args.pass.now c.is_alive.new.pass c.mark_as.new.pass c.args.entity alive c.mark_as.ensures.step

pub returns-clause-gains : goal.returns-clause-gains
returns-clause-gains c = mark_gains c.args.self.now.board c.args.pass.now c.mark_as.new.pass c.args.entity (returns-clause-marked c)

pub returns-clause-own_mark : goal.returns-clause-own_mark
returns-clause-own_mark c = newly_marked (phase_of c.args.self.now.board.plan) c.args.pass.now c.mark_as.new.pass _ _ (returns-clause-gains c)

pub returns-clause-seen : goal.returns-clause-seen
returns-clause-seen c = saw_marked c.args.self.now.board c.args.pass.now c.mark_as.new.pass c.args.entity (returns-clause-marked c)
