use Rattle.std.proofs.Common.{rules, sym, not, bit_and, ◌==◌, ◌≡◌, ℕ, Bool, ◌∷◌, [], ◌++◌, ◌/◌, ◌+◌, ◌%◌, arith, subst, ap, ◌∙◌, ◌<◌}
use Rattle.entities.specs.declared.phase.trace.Step.TheVariants.{Mark, Peek}
use Rattle.std.proofs.lemmas.Nat.{one_shl}
use Rattle.entities.specs.Phase.Trace.{AreCalls}
use Rattle.entities.specs.Phase.Plan.{phase_of}
use Rattle.entities.specs.Phase.Board.{steps_of_pass, IsNext}
use Rattle.entities.specs.Phase.Rule.{Among, bit_of, with_step}
use Rattle.entities.specs.declared.phase.pass.Pass.{Pass}
use Rattle.entities.proofs.Phases.Passes.{next_of}
use Rattle.entities.proofs.Phases.Keeps.{peeks_at}
use Rattle.entities.proofs.phase.board.Board.peek_as.Goals as goal

pub load-found-requires : goal.load-found-requires
load-found-requires g c = let board = c.args.self.now in let i : ℕ = g.I.Asked.index in let same : c.args.index ≡ i = c.requires.index.0 in (
  c.requires.pass.0,
  search rules,
  peeks_at board.plan board.words.shared.key board.words.shared.table_id.slots c.args.pass.now.record.id c.args.pass.now.record.me i _ board.keyed c.requires.pass.2
      (subst (λ (k : ℕ). k / 64 < board.plan.width) same c.requires.index.1)
      (λ b. subst (λ (k : ℕ). AreCalls (phase_of board.plan) (steps_of_pass c.args.pass.now ++ Peek k b ∷ [])) same (c.requires.calls b))
      (ap (λ (k : ℕ). k / 64 + 1) same),
)

pub returns-clause-step : goal.returns-clause-step
returns-clause-step g c = let i : ℕ = c.args.index in let n : ℕ = c.load-found.result in
    let now : Pass = record { «record» = c.load-found.new.seat; spent = c.args.pass.now.spent } in
    subst (λ (b : Bool). IsNext c.args.pass.now now (Peek i b ∷ [])) (ap (λ (k : ℕ). not (bit_and n k == 0)) (sym (one_shl (i % 64) 64 (omega arith))))
    (next_of c.args.pass.now now (Peek i (bit_of i n)) c.requires.pass.2 c.requires.pass.1 c.load-found.ensures.0
    (c.load-found.ensures.2.0 ∙ ap (λ (k : ℕ). (with_step (Peek k (bit_of k n)) c.args.pass.now.record.me.0, c.args.pass.now.record.me.1)) (sym c.requires.index.0)))

pub returns-clause-own : goal.returns-clause-own
returns-clause-own g c a =
    let n : ℕ = c.load-found.result in
    let same : c.args.index ≡ g.I.Asked.index = c.requires.index.0 in
    ap (λ (k : ℕ). not (bit_and n k == 0)) (one_shl (c.args.index % 64) 64 (omega arith))
    ∙ ap (λ (k : ℕ). bit_of k n) same
    ∙ c.load-found.ensures.2.1 (subst (λ (k : ℕ). Among (Mark k) (steps_of_pass c.args.pass.now)) same a)
