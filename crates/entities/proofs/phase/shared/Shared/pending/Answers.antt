use Rattle.std.proofs.Common.{◌≡◌, ◌∙◌, true, false, ◌||◌, refl, ap, subst, Bool}
use Rattle.entities.specs.Population.{Population}
use Rattle.entities.specs.Phase.Calls.{AliveSteps}
use Rattle.entities.proofs.Phases.Calls.{index_within, peek_after, peeked_pass, peeked_steps, population_but}
use Rattle.entities.proofs.Phases.Given.{pending_gains}
use Rattle.entities.proofs.Phases.Seen.{own_pending, saw_pending}
use Rattle.entities.proofs.phase.shared.Shared.pending.Goals as goal

pub peek_as-found-requires-clause-calls : goal.peek_as-found-requires-clause-calls
peek_as-found-requires-clause-calls c =
    let alive = subst (λ (b : Bool). AliveSteps c.args.self.now.board c.args.pass.now c.is_alive.new.pass c.args.entity b) c.if-not-is_alive.false c.is_alive.ensures.steps in
    peek_after c.args.self.now.board c.args.pass.now c.is_alive.new.pass c.args.entity c.requires.pass alive

pub peek_as-found-requires-clause-index : goal.peek_as-found-requires-clause-index
peek_as-found-requires-clause-index c =
    let alive = subst (λ (b : Bool). AliveSteps c.args.self.now.board c.args.pass.now c.is_alive.new.pass c.args.entity b) c.if-not-is_alive.false c.is_alive.ensures.steps in
    (refl, index_within c.args.self.now.board c.args.pass.now c.is_alive.new.pass c.args.entity alive)

pub returns-then-found-clause-pass : goal.returns-then-found-clause-pass
returns-then-found-clause-pass c =
    let alive = subst (λ (b : Bool). AliveSteps c.args.self.now.board c.args.pass.now c.is_alive.new.pass c.args.entity b) c.if-not-is_alive.false c.is_alive.ensures.steps in
    peeked_pass c.args.self.now.board c.args.pass.now c.is_alive.new.pass c.peek_as-found.new.pass c.args.entity c.peek_as-found.result c.requires.pass alive c.peek_as-found.ensures.step c.is_alive.ensures.spent c.peek_as-found.ensures.spent

pub returns-else-found-clause-pass : goal.returns-else-found-clause-pass
returns-else-found-clause-pass c =
    let alive = subst (λ (b : Bool). AliveSteps c.args.self.now.board c.args.pass.now c.is_alive.new.pass c.args.entity b) c.if-not-is_alive.false c.is_alive.ensures.steps in
    peeked_pass c.args.self.now.board c.args.pass.now c.is_alive.new.pass c.peek_as-found.new.pass c.args.entity c.peek_as-found.result c.requires.pass alive c.peek_as-found.ensures.step c.is_alive.ensures.spent c.peek_as-found.ensures.spent

or_self : (b m : Bool) → b ≡ true → b ≡ (b || m)
or_self true m e = refl
or_self false m e = cc

pub returns-then-found-clause-steps : goal.returns-then-found-clause-steps
returns-then-found-clause-steps c =
    let alive = subst (λ (b : Bool). AliveSteps c.args.self.now.board c.args.pass.now c.is_alive.new.pass c.args.entity b) c.if-not-is_alive.false c.is_alive.ensures.steps in
    peeked_steps c.args.self.now.board c.args.pass.now c.is_alive.new.pass c.peek_as-found.new.pass c.args.entity c.peek_as-found.result c.peek_as-found.result alive c.peek_as-found.ensures.step c.peek_as-found.ensures.own (or_self _ _ c.if-found.true)

pub returns-else-found-clause-steps : goal.returns-else-found-clause-steps
returns-else-found-clause-steps c =
    let alive = subst (λ (b : Bool). AliveSteps c.args.self.now.board c.args.pass.now c.is_alive.new.pass c.args.entity b) c.if-not-is_alive.false c.is_alive.ensures.steps in
    let board = c.args.self.now.board in
    let same = population_but board.plan.opening.value c.args.self.now.entities.now c.requires.open.same in
    peeked_steps c.args.self.now.board c.args.pass.now c.is_alive.new.pass c.peek_as-found.new.pass c.args.entity c.peek_as-found.result c.contains.result alive c.peek_as-found.ensures.step c.peek_as-found.ensures.own
    (rw c.if-found.false (c.contains.ensures.value ∙ c.marked.ensures c.args.entity.0 ∙ ap (λ (p : Population). p.marked c.args.entity.0) same))

pub returns-then-found-clause-nothing : goal.returns-then-found-clause-nothing
returns-then-found-clause-nothing c = pending_gains c.args.self.now.board c.args.pass.now c.peek_as-found.new.pass c.args.entity _ (returns-then-found-clause-steps c)

pub returns-else-found-clause-nothing : goal.returns-else-found-clause-nothing
returns-else-found-clause-nothing c = pending_gains c.args.self.now.board c.args.pass.now c.peek_as-found.new.pass c.args.entity _ (returns-else-found-clause-steps c)

pub returns-then-found-clause-own : goal.returns-then-found-clause-own
returns-then-found-clause-own c = own_pending c.args.self.now.board c.args.self.now.entities.now c.args.pass.now c.peek_as-found.new.pass c.args.entity _ c.requires.open (returns-then-found-clause-steps c)

pub returns-then-found-clause-seen : goal.returns-then-found-clause-seen
returns-then-found-clause-seen c = saw_pending c.args.self.now.board c.args.pass.now c.peek_as-found.new.pass c.args.entity _ (returns-then-found-clause-steps c)

pub returns-else-found-clause-own : goal.returns-else-found-clause-own
returns-else-found-clause-own c = own_pending c.args.self.now.board c.args.self.now.entities.now c.args.pass.now c.peek_as-found.new.pass c.args.entity _ c.requires.open (returns-else-found-clause-steps c)

pub returns-else-found-clause-seen : goal.returns-else-found-clause-seen
returns-else-found-clause-seen c = saw_pending c.args.self.now.board c.args.pass.now c.peek_as-found.new.pass c.args.entity _ (returns-else-found-clause-steps c)
