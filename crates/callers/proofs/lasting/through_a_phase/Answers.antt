use Rattle.std.proofs.Common.{◌≡◌, ℕ, List, rules, ap, subst, ◌∙◌}
use Rattle.entities.specs.Census.{population}
use Rattle.entities.specs.Population.{Population}
use Rattle.entities.specs.declared.phase.trace.Line.{Line}
use Rattle.entities.specs.Phase.Calls.{IsClosed}
use Rattle.entities.specs.Phase.Opened.{phase_opened}
use Rattle.entities.specs.Phase.Reserve.{IsReserve}
use Rattle.entities.specs.Phase.Trace.{Phase}
use Rattle.specs.specs.Laws.Gone.{KeepsGone}
use Rattle.specs.specs.Laws.Reached.{KeepsLiving}
use Rattle.specs.specs.World.State.{State, core_state}
use Rattle.callers.proofs.lasting.through_a_phase.Goals as goal

-- the population at the opening, by another name
closed_at : (o : Phase) (p q after : Population) (back : List Line) (births marks : ℕ) → p ≡ q → IsClosed o back p after births marks → IsClosed o back q after births marks
closed_at o p q after back births marks same closed = subst (λ (r : Population). IsClosed o back r after births marks) same closed

pub returns-in-Ok-clause-gone : goal.returns-in-Ok-clause-gone
returns-in-Ok-clause-gone g c =
    let after = population c.close.new.self.0 in
    let kept : KeepsGone (population c.args.core.now.parts.entities) after =
    subst (λ (p : Population). KeepsGone p after) (c.in-Ok.ensures.same ∙ ap (λ p. population p.entities) c.parts-parts.ensures.value)
    (c.phases_keep.ensures.gone _ after _ _ _ _ c.close.ensures.closed) in
    search (kept, rules)

pub returns-in-Ok-clause-living : goal.returns-in-Ok-clause-living
returns-in-Ok-clause-living g c =
    let core = c.args.core.now in
    let parts = c.parts-parts.result.now in
    let after = population c.close.new.self.0 in
    let old : State g.row.S-Slot.Denot g.row.S-Value.Denot = core_state g.S.Held.table g.S.Held.ids core in
    let new : State g.row.S-Slot.Denot g.row.S-Value.Denot = record { people = after; table = g.S.Held.table parts.storages; ids = g.S.Held.ids parts.storages } in
    let value = c.parts-parts.ensures.value in
    let reserve = subst (λ (p : Population). IsReserve p (phase_opened c.in-Ok.shared).reserve) (ap (λ p. population p.entities) value) c.in-Ok.ensures.reserve in
    let closed = closed_at (phase_opened c.in-Ok.shared) _ (population core.parts.entities) after _ _ _ (c.in-Ok.ensures.same ∙ ap (λ p. population p.entities) value) c.close.ensures.closed in
    let kept : KeepsLiving old new = c.phases_keep.ensures.living old new _ _ _ _ reserve closed (ap (λ p. g.S.Held.table p.storages) value) in
    search (kept, rules)
