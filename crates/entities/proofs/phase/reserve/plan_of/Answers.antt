use Rattle.std.proofs.Common.{◌≡◌, ◌<◌, ◌∙◌, ℕ, List, min, length, arith, ap, sym, subst, Some}
use Rattle.std.specs.Prelude.{slice_get}
use Rattle.entities.specs.declared.entity.Entity.{Entity}
use Rattle.entities.specs.Census.{population}
use Rattle.entities.specs.Upcoming.{upcoming}
use Rattle.entities.specs.Phase.Reserve.{IsReserve}
use Rattle.entities.proofs.Population.Upcoming.{below_end, upcoming_length}
use Rattle.entities.proofs.Phases.Reserve.{located}
use Rattle.entities.proofs.phase.reserve.plan_of.Goals as goal
use Rattle.entities.proofs.phase.reserve.plan_of.Goals.{then-revived-gt0+in_ok-places, else-revived-gt0}

pub returns-clause-located : goal.returns-clause-located
returns-clause-located c =
    let s = c.make_room.new.self in
    let n : ℕ = c.args.reserve in
    let born : c.born-born.result ≡ length s.generations = c.born-born.ensures.born ∙ ap length (sym c.make_room.ensures.same.generations) in
    let many : c.min-revived.result ≡ min (length s.free) n = c.min-revived.ensures ∙ ap (λ (k : ℕ). min k n) (c.free_count.ensures ∙ ap length (sym c.make_room.ensures.same.free)) in
    let items : c.in_ok-all.all.items ≡ upcoming s n = c.in_ok-all.ensures.items in
    let reserve = subst (λ (es : List Entity). IsReserve (population s) es) items c.in_ok-all.ensures.reserve in
    let below = subst (λ (es : List Entity). (k : ℕ) (e : Entity) → slice_get es k ≡ Some e → k < length s.free → e.0 < length s.generations) items c.in_ok-all.ensures.revived in
    elim c.if-revived-gt0.branch [
      | then-revived-gt0+in_ok-places w ↦
          let p = w.in_ok-places.ensures in
          let listed = w.as_slice.ensures.value ∙ items in
          rw (w.places-is, born) (λ k e at. located s n c.min-revived.result w.in_ok-places.places.items reserve below many (λ _. (p.0 ∙ born, rw (listed, born) at p.1)) (λ z. absurd (omega (arith, z, w.if-revived-gt0.true))) k e (rw items at at))
      | else-revived-gt0 w ↦
          rw (w.places-is, born) (λ k e at. located s n c.min-revived.result w.new-places.result.items reserve below many (λ z. absurd (omega (arith, z, w.if-revived-gt0.false))) (λ _. w.new-places.ensures.items) k e (rw items at at))
    ]

pub returns-clause-below : goal.returns-clause-below
returns-clause-below c k e at =
    let s = c.make_room.new.self in
    let n : ℕ = c.args.reserve in
    let items : c.in_ok-all.all.items ≡ upcoming s n = c.in_ok-all.ensures.items in
    let below = subst (λ (es : List Entity). (k : ℕ) (e : Entity) → slice_get es k ≡ Some e → k < length s.free → e.0 < length s.generations) items c.in_ok-all.ensures.revived in
    let end = below_end s n k e below (rw items at at) in
    omega (arith, end, c.born-born.ensures.born, ap length c.make_room.ensures.same.generations, ap length c.make_room.ensures.same.free, c.min-revived.ensures, c.free_count.ensures)

pub places_of-requires-clause-few : goal.places_of-requires-clause-few
places_of-requires-clause-few c = omega (arith, ap length c.as_slice.ensures.value, ap length c.in_ok-all.ensures.items, upcoming_length c.make_room.new.self c.args.reserve)
