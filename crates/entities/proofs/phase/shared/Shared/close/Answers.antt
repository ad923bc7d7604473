use Rattle.std.proofs.Common.{◌≡◌, ◌≤◌, ◌∙◌, ◌*◌, ◌<◌, ℕ, List, true, ap, sym, subst, take, min, length, arith}
use Rattle.std.specs.Prelude.{slice_index}
use Rattle.std.specs.Mem.Slots.{slots_items}
use Rattle.hibits.specs.Counts.{count_below}
use Rattle.entities.specs.declared.entity.Entity.{Entity}
use Rattle.entities.specs.declared.phase.plan.Plan.{Plan}
use Rattle.entities.specs.Census.{Census, population}
use Rattle.entities.specs.Population.{Population, lives}
use Rattle.entities.specs.Upcoming.{upcoming}
use Rattle.entities.specs.Phase.Reserve.{with_births, with_marks}
use Rattle.entities.specs.Phase.Rule.{marks_index, marks_below}
use Rattle.entities.specs.Phase.Plan.{phase_of}
use Rattle.entities.specs.Phase.Trace.{run, start}
use Rattle.entities.specs.declared.phase.board.Board.{Board}
use Rattle.entities.specs.Phase.Board.{record_of}
use Rattle.entities.specs.Phase.Calls.{IsOpen}
use Rattle.entities.proofs.Population.Upcoming.{same_upcoming, upcoming_take}
use Rattle.entities.proofs.Phases.Calls.{population_but}
use Rattle.entities.proofs.Phases.Sound.{marked_alive}
use Rattle.entities.proofs.Phases.Ends.{closes, alive_then, spent_all}
use Rattle.entities.specs.Phase.Reserve.{IsReserve}
use Rattle.entities.proofs.Phases.Given.{given_once, taken_up}
use Rattle.entities.proofs.Phases.Theirs.{all_theirs}
use Rattle.entities.proofs.phase.shared.Shared.close.Goals as goal

-- the entities that are born are the first of the reserve
taken : (board : Board) (now : Census) (births : ℕ) → IsOpen now board → births ≤ length board.plan.reserve.items → upcoming now births ≡ take births board.plan.reserve.items
taken board now births opened le =
    same_upcoming board.plan.opening.value now births opened.same
    ∙ sym (upcoming_take board.plan.opening.value (length board.plan.reserve.items) births le)
    ∙ ap (take births) (sym opened.next)

pub mark_all-marks-requires-clause-alive : goal.mark_all-marks-requires-clause-alive
mark_all-marks-requires-clause-alive c i lt is =
    let board = c.args.self.board in
    let now = c.args.self.entities.now in
    let o = phase_of board.plan in
    let e = c.finish-ended.ensures.ended in
    let births : ℕ = c.births-births.result in
    let low : i < 64 * board.plan.width = subst (λ (p : Plan). i < 64 * p.width) c.finish-ended.ensures.plan lt in
    let born : births ≡ min (run start e.trace).cursor (length board.plan.reserve.items) = c.births-births.ensures ∙ ap (λ (p : Plan). min (slice_index (slots_items c.finish-ended.result.words.words) 0) (length p.reserve.items)) c.finish-ended.ensures.plan ∙ ap (λ (k : ℕ). min k (length board.plan.reserve.items)) e.cursor in
    let alive = marked_alive o e.trace e.leads i (sym (e.marks i (omega (arith, low))) ∙ is) in
    let lives_then = alive_then o births (run start e.trace).cursor i born alive in
    let same = population_but board.plan.opening.value now c.requires.open.same in
    let mid : population c.bear_reserved.new.self ≡ with_births (take births board.plan.reserve.items) o.opening =
    c.bear_reserved.ensures.born ∙ ap (λ (es : List Entity). with_births es (population now)) (taken board now births c.requires.open (omega (arith, born))) ∙ ap (with_births (take births board.plan.reserve.items)) same in
    subst (λ (p : Population). lives p i ≡ true) (sym mid) lives_then

pub returns-clause-closed : goal.returns-clause-closed
returns-clause-closed c =
    let board = c.args.self.board in
    let now = c.args.self.entities.now in
    let words = slots_items c.finish-ended.result.words.words in
    let births : ℕ = c.births-births.result in
    let born : births ≡ min (slice_index words 0) (length board.plan.reserve.items) = c.births-births.ensures ∙ ap (λ (p : Plan). min (slice_index words 0) (length p.reserve.items)) c.finish-ended.ensures.plan in
    closes board words (record_of c.args.passes.items) (population now) (population c.bear_reserved.new.self) (population c.mark_all-marks.new.entities) births c.mark_all-marks.result
    c.finish-ended.ensures.ended (population_but board.plan.opening.value now c.requires.open.same) born
    (c.bear_reserved.ensures.born ∙ ap (λ (es : List Entity). with_births es (population now)) (taken board now births c.requires.open (omega (arith, born))))
    (subst (λ (p : Plan). population c.mark_all-marks.new.entities ≡ with_marks (marks_below words (64 * p.width)) (population c.bear_reserved.new.self)) c.finish-ended.ensures.plan c.mark_all-marks.ensures.marked)
    (subst (λ (p : Plan). c.mark_all-marks.result ≡ count_below (marks_index words) (64 * p.width)) c.finish-ended.ensures.plan c.mark_all-marks.ensures.count)

pub returns-clause-spent : goal.returns-clause-spent
returns-clause-spent c k d lt spent =
    let board = c.args.self.board in
    let words = slots_items c.finish-ended.result.words.words in
    let births : ℕ = c.births-births.result in
    let born : births ≡ min (slice_index words 0) (length board.plan.reserve.items) = c.births-births.ensures ∙ ap (λ (p : Plan). min (slice_index words 0) (length p.reserve.items)) c.finish-ended.ensures.plan in
    spent_all board words c.args.passes.items births k d c.finish-ended.ensures.ended born c.requires.passes lt spent

pub returns-clause-once : goal.returns-clause-once
returns-clause-once c =
    let board = c.args.self.board in
    given_once board (population board.plan.opening.value) (population c.args.self.entities.now) (population c.mark_all-marks.new.entities) c.births-births.result c.mark_all-marks.result c.args.passes.items c.requires.passes c.requires.open.reserve (returns-clause-closed c)

pub returns-clause-taken_up : goal.returns-clause-taken_up
returns-clause-taken_up c =
    let board = c.args.self.board in
    let now = c.args.self.entities.now in
    let reserve : IsReserve (population now) board.plan.reserve.items = subst (λ (p : Population). IsReserve p board.plan.reserve.items) (sym (population_but board.plan.opening.value now c.requires.open.same)) c.requires.open.reserve in
    taken_up board (population now) (population c.mark_all-marks.new.entities) c.births-births.result c.mark_all-marks.result c.args.passes.items c.requires.passes reserve (returns-clause-closed c)

pub returns-clause-theirs : goal.returns-clause-theirs
returns-clause-theirs c = all_theirs c.args.self.board (population c.args.self.entities.now) (population c.mark_all-marks.new.entities) c.births-births.result c.mark_all-marks.result c.args.passes.items c.requires.passes (returns-clause-closed c)
