use Rattle.std.proofs.Common.{◌≡◌, ℕ, Bool, ap, sym, ◌∙◌, map, subst}
use Rattle.std.specs.Prelude.{IfOk}
use Rattle.hibits.specs.Left.{left}
use Rattle.entities.specs.Census.{population}
use Rattle.entities.specs.Merges.{living_entity}
use Rattle.specs.proofs.AllDie.{members_living}
use Rattle.specs.proofs.world.core_parts.Core.living.Goals as goal

pub list_of-requires : goal.list_of-requires
list_of-requires g c = λ i h.
    let same = members_living c.living.result.0.now.members c.living.result.1.now.members (population c.args.self.now.parts.entities) c.living.ensures.merged c.living.ensures.pending in
    ap (λ (q : ℕ → Bool). q i) (sym same) ∙ h

pub returns-clause-all : goal.returns-clause-all
returns-clause-all g c =
    let p = population c.args.self.now.parts.entities in
    let same = members_living c.living.result.0.now.members c.living.result.1.now.members p c.living.ensures.merged c.living.ensures.pending in
    subst (λ (q : ℕ → Bool). IfOk c.list_of.result (λ list. list.items ≡ map (living_entity p) (left q 0))) same c.list_of.ensures.items

pub returns-clause-none : goal.returns-clause-none
returns-clause-none g c = λ nobody.
    let same = members_living c.living.result.0.now.members c.living.result.1.now.members (population c.args.self.now.parts.entities) c.living.ensures.merged c.living.ensures.pending in
    c.list_of.ensures.none (λ i. ap (λ (q : ℕ → Bool). q i) same ∙ nobody i)
