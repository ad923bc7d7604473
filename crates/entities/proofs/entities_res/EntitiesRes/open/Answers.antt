use Rattle.std.proofs.Common.{rules, ◌≡◌, ◌∙◌, ℕ, length, refl, ap, sym, subst, arith}
use Rattle.entities.specs.declared.phase.plan.Plan.{Plan}
use Rattle.entities.specs.Census.{population}
use Rattle.entities.specs.Kept.{SameBut}
use Rattle.entities.specs.Upcoming.{upcoming}
use Rattle.entities.specs.Phase.Reserve.{IsReserve}
use Rattle.entities.specs.Phase.Plan.{phase_of, AreLocated}
use Rattle.entities.specs.Phase.Calls.{EveryOrderIsSound}
use Rattle.entities.proofs.Population.Upcoming.{upcoming_length}
use Rattle.entities.proofs.Phases.Calls.{population_but}
use Rattle.entities.proofs.Phases.Passes.{fresh_each, all_from_each}
use Rattle.entities.specs.Phase.Board.{IsPassOf}
use Rattle.entities.proofs.Phases.Sound.{sound}
use Rattle.entities.specs.Phase.Given.{IsBlank}
use Rattle.entities.proofs.Phases.Given.{fresh_blank}
use Rattle.entities.proofs.entities_res.EntitiesRes.open.Goals as goal

pub returns : goal.returns
returns c =
    let s = c.args.self.now in
    let now = c.plan_of.new.entities in
    let n : ℕ = c.args.reserve in
    let plan = c.in-Ok.plan in
    let board = c.in-Ok-start.started.0 in
    let is : board.plan ≡ plan = c.in-Ok-start.ensures.plan in
    let opening : SameBut plan.opening.value now = c.in-Ok.ensures.opening in
    let next : plan.reserve.items ≡ upcoming plan.opening.value n = c.in-Ok.ensures.next in
    let many : length plan.reserve.items ≡ n = ap length next ∙ upcoming_length plan.opening.value n in
    let same : population plan.opening.value ≡ population s = sym (population_but plan.opening.value now opening) ∙ c.plan_of.ensures.population in
    let reserve : IsReserve (population s) plan.reserve.items = c.in-Ok.ensures.reserve in
    let sizes = ap (λ (p : Plan). length p.reserve.items) is ∙ many in (
      (refl, (λ w. refl), tt),
      record {
        rests = tt;
        same_reference = refl;
        «open» = record {
          same = subst (λ (p : Plan). SameBut p.opening.value now) (sym is) opening;
          room = omega (arith, sizes, c.in-Ok.ensures.room);
          next = subst (λ (p : Plan). p.reserve.items ≡ upcoming p.opening.value (length p.reserve.items)) (sym is) (next ∙ ap (upcoming plan.opening.value) (sym many));
          located = subst AreLocated (sym is) c.in-Ok.ensures.located;
          reserve = subst (λ (p : Plan). IsReserve (population p.opening.value) p.reserve.items) (sym is) (rw same reserve);
        };
        same = c.plan_of.ensures.population;
        room = c.plan_of.ensures.kept;
        takes = c.plan_of.ensures.bound;
        plan = ap (λ (p : Plan). population p.opening.value) is ∙ same;
        sizes = (sizes, ap (λ (p : Plan). p.passes) is ∙ c.in-Ok.ensures.passes);
        reserve = subst (λ (p : Plan). IsReserve (population s) p.reserve.items) (sym is) reserve;
        passes = (c.in-Ok-start.ensures.passes.0, c.in-Ok-start.ensures.passes.1 ∙ c.in-Ok.ensures.passes);
        of_phase = all_from_each (IsPassOf board) c.in-Ok-start.started.1.items (fresh_each board 0 c.in-Ok-start.started.1.items c.in-Ok-start.ensures.passes.0);
        blank = all_from_each (IsBlank (phase_of board.plan)) c.in-Ok-start.started.1.items (fresh_blank board 0 c.in-Ok-start.started.1.items c.in-Ok-start.ensures.passes.0);
        law = subst (λ (p : Plan). EveryOrderIsSound (phase_of p)) (sym is) (sound (phase_of plan) (rw same reserve));
        many = tt;
        limit = tt;
        memory = tt;
        few = (omega arith, c.in-Ok.ensures.enough);
      },
    )

pub returns-in-Err : goal.returns-in-Err
returns-in-Err c = (
  (refl, (λ w. tt), ((c.plan_of.ensures.population, c.plan_of.ensures.kept), ((λ e. absurd (c.in-Err.ensures.kind e)), c.in-Err.ensures.untouched))),
  record {
    rests = tt;
    same_reference = tt;
    «open» = tt;
    same = tt;
    room = tt;
    takes = tt;
    plan = tt;
    sizes = tt;
    reserve = tt;
    passes = tt;
    blank = tt;
    of_phase = tt;
    law = tt;
    many = λ e. absurd (c.in-Err.ensures.kind e);
    limit = λ e. (omega arith, c.in-Err.ensures.limit e);
    memory = λ e. (omega arith, c.in-Err.ensures.memory e);
    few = tt;
  },
)

pub returns-in-Err-start : goal.returns-in-Err-start
returns-in-Err-start c = (
  (refl, (λ w. tt), ((c.plan_of.ensures.population, c.plan_of.ensures.kept), ((λ e. search rules), (λ e. search rules)))),
  record {
    rests = tt;
    same_reference = tt;
    «open» = tt;
    same = tt;
    room = tt;
    takes = tt;
    plan = tt;
    sizes = tt;
    reserve = tt;
    passes = tt;
    blank = tt;
    of_phase = tt;
    law = tt;
    many = λ e. search rules;
    limit = λ e. search rules;
    memory = λ e. (omega arith, c.in-Ok.ensures.enough);
    few = tt;
  },
)
