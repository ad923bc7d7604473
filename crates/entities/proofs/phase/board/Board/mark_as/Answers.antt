use Rattle.std.proofs.Common.{rules, sym, ◌≡◌, ℕ, ◌∷◌, [], ◌++◌, ◌/◌, ◌+◌, ◌%◌, ◌^◌, arith, subst, ap, ◌∙◌, ◌<◌}
use Rattle.std.proofs.lemmas.Nat.{one_shl}
use Rattle.entities.specs.declared.phase.trace.Step.TheVariants.{Mark}
use Rattle.entities.specs.Phase.Trace.{AreCalls}
use Rattle.entities.specs.Phase.Plan.{phase_of}
use Rattle.entities.specs.Phase.Board.{steps_of_pass}
use Rattle.entities.specs.Phase.Rule.{with_step}
use Rattle.entities.proofs.Phases.Passes.{next_of}
use Rattle.entities.proofs.Phases.Keeps.{marks_at}
use Rattle.entities.proofs.phase.board.Board.mark_as.Goals as goal

pub fetch_or-requires : goal.fetch_or-requires
fetch_or-requires g c = let board = c.args.self.now in let i : ℕ = g.I.Asked.index in let same : c.args.index ≡ i = c.requires.index.0 in (
  c.requires.pass.0,
  search rules,
  marks_at board.plan board.words.shared.key board.words.shared.table_id.slots c.args.pass.now.record.id c.args.pass.now.record.me i _ _ board.keyed c.requires.pass.2
      (subst (λ (k : ℕ). k / 64 < board.plan.width) same c.requires.index.1)
      (subst (λ (k : ℕ). AreCalls (phase_of board.plan) (steps_of_pass c.args.pass.now ++ Mark k ∷ [])) same c.requires.calls)
      (ap (λ (k : ℕ). k / 64 + 1) same) (one_shl (c.args.index % 64) 64 (omega arith) ∙ ap (λ (k : ℕ). 2 ^ (k % 64)) same),
)

pub returns-clause-step : goal.returns-clause-step
returns-clause-step g c = next_of c.args.pass.now _ (Mark c.args.index) c.requires.pass.2 c.requires.pass.1 c.fetch_or.ensures.0
    (c.fetch_or.ensures.2 ∙ ap (λ (k : ℕ). (with_step ((λ (k : ℕ). Mark k) k) c.args.pass.now.record.me.0, c.args.pass.now.record.me.1)) (sym c.requires.index.0))
