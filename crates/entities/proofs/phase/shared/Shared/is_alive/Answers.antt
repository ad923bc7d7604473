use Rattle.std.proofs.Common.{◌≡◌, inl, inr, true, subst, refl, [], ◌∷◌}
use Rattle.entities.specs.declared.phase.trace.Step.TheVariants.{Look}
use Rattle.std.specs.Prelude.{◌↔◌}
use Rattle.entities.specs.Population.{Population, IsAlive}
use Rattle.entities.proofs.Phases.Passes.{looked_at}
use Rattle.entities.proofs.Phases.Calls.{population_but}
use Rattle.entities.specs.Phase.Plan.{phase_of}
use Rattle.entities.proofs.Phases.Given.{gains, own_alive}
use Rattle.entities.proofs.Phases.Seen.{saw_alive, stays_alive}
use Rattle.entities.proofs.phase.shared.Shared.is_alive.Goals as goal

pub returns-in-Some-clause-pass : goal.returns-in-Some-clause-pass
returns-in-Some-clause-pass c = looked_at c.args.self.now.board c.args.pass.now c.look.new.pass c.look.result c.requires.pass c.look.ensures.step c.look.ensures.spent

pub returns-in-None-clause-steps : goal.returns-in-None-clause-steps
returns-in-None-clause-steps c =
    let same = population_but c.args.self.now.board.plan.opening.value c.args.self.now.entities.now c.requires.open.same in
    inr (c.in-None.ensures, refl, subst (λ (p : Population). (c.is_alive.result ≡ true) ↔ IsAlive p c.args.entity) same c.is_alive.ensures.alive)

pub returns-in-None-clause-own : goal.returns-in-None-clause-own
returns-in-None-clause-own c = own_alive c.args.self.now.board c.args.self.now.entities.now c.args.pass.now c.args.pass.now c.args.entity c.is_alive.result c.requires.open (returns-in-None-clause-steps c)

pub returns-in-Some-clause-nothing : goal.returns-in-Some-clause-nothing
returns-in-Some-clause-nothing c = gains (phase_of c.args.self.now.board.plan) c.args.pass.now c.look.new.pass (Look c.look.result ∷ []) c.look.ensures.step

pub returns-in-Some-clause-own : goal.returns-in-Some-clause-own
returns-in-Some-clause-own c =
    own_alive c.args.self.now.board c.args.self.now.entities.now c.args.pass.now c.look.new.pass c.args.entity _ c.requires.open
    (inl (c.in-Some.place, c.look.result, c.in-Some.ensures, c.look.ensures.step, c.look.ensures.seen, refl))

pub returns-in-Some-clause-seen : goal.returns-in-Some-clause-seen
returns-in-Some-clause-seen c = saw_alive c.args.self.now.board c.args.pass.now c.look.new.pass c.args.entity _ (inl (c.in-Some.place, c.look.result, c.in-Some.ensures, c.look.ensures.step, c.look.ensures.seen, refl))

pub returns-in-Some-clause-stays : goal.returns-in-Some-clause-stays
returns-in-Some-clause-stays c =
    stays_alive c.args.self.now.board c.args.self.now.entities.now c.args.pass.now c.look.new.pass c.args.entity _ c.requires.open
    (inl (c.in-Some.place, c.look.result, c.in-Some.ensures, c.look.ensures.step, c.look.ensures.seen, refl))

pub returns-in-None-clause-seen : goal.returns-in-None-clause-seen
returns-in-None-clause-seen c = saw_alive c.args.self.now.board c.args.pass.now c.args.pass.now c.args.entity c.is_alive.result (returns-in-None-clause-steps c)

pub returns-in-None-clause-stays : goal.returns-in-None-clause-stays
returns-in-None-clause-stays c = stays_alive c.args.self.now.board c.args.self.now.entities.now c.args.pass.now c.args.pass.now c.args.entity c.is_alive.result c.requires.open (returns-in-None-clause-steps c)
