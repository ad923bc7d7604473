-- What an opened phase does with the entities that it was lent.
use Rattle.std.specs.Prelude.{ℕ, ◌≡◌, ◌≤◌, Result, IfErr}
use Rattle.std.specs.Borrow.{RestsIfErr, MutBor, Fml}
use Rattle.std.specs.Global.{Vec}
use Rattle.entities.specs.Census.{Census, population}
use Rattle.entities.specs.declared.phase.board.Board.{Board}
use Rattle.entities.specs.declared.phase.opening.OpenError.{OpenError}
use Rattle.entities.specs.declared.phase.opening.OpenError.TheVariants.{TooManyPasses, IndexLimit}
use Rattle.entities.specs.declared.phase.pass.Pass.{Pass}
use Rattle.entities.specs.declared.phase.shared.Shared.{Shared}
use Rattle.entities.specs.contracts.entities_res.EntitiesRes as whole

abbrev pub KeepsPopulationAndRoom : MutBor Census → Census → Type 0
KeepsPopulationAndRoom s c = (population c ≡ population s.now) × (s.now.room ≤ c.room)

-- a refusal that comes before any work leaves all as it was
abbrev pub KeepsAllIfEarly : {T : Type 0} → MutBor Census → Result T OpenError → Census → Type 0
KeepsAllIfEarly s r c = IfErr r (λ e. (e ≡ TooManyPasses → c ≡ s.now) × (e ≡ IndexLimit → c ≡ s.now))

abbrev pub name_of_phase : Shared Board × Vec Pass → ℕ
name_of_phase r = r.0.entities.ghost_name

-- without a phase their population is as it was, and as much room is kept; a refusal before any work changes nothing
abbrev pub OpenRests : MutBor Census → Result (Shared Board × Vec Pass) OpenError → Fml
OpenRests s r = RestsIfErr whole.the_row s name_of_phase r (λ c. KeepsPopulationAndRoom s c × KeepsAllIfEarly s r c)
