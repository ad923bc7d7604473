use Rattle.std.proofs.Common.{◌≡◌, List, length, ap, sym, ◌∙◌, subst}
use Rattle.std.specs.Prelude.{IsSome}
use Rattle.std.specs.List.{All}
use Rattle.phase_threads.specs.declared.seats.Seat.{Seat}
use Rattle.entities.specs.Phase.Board.{IsPassOf}
use Rattle.entities.specs.Phase.Opened.{board_of, phase_opened}
use Rattle.entities.specs.Phase.Given.{IsBlank}
use Rattle.phase_threads.specs.Seating.{passes_of, answers_of}
use Rattle.phase_threads.specs.Calling.{MayCall}
use Rattle.phase_threads.proofs.Seated.{seated, unseated, told, some_of, lent_back, count_of_passes, count_of_answers}
use Rattle.phase_threads.proofs.Unused.{unused}
use Rattle.phase_threads.proofs.run.run_open.Goals as goal

pub returns-in-Err-clause-same : goal.returns-in-Err-clause-same
returns-in-Err-clause-same g c =
    let shared = c.args.shared in
    unused (board_of shared) (phase_opened shared) c.args.passes.items c.in-Err.passes.items _ _ _ _ (ap (λ v. v.items) c.in-Err.ensures.back) c.requires.fresh c.requires.whole c.close.ensures.closed

pub take_turns-requires-clause-wait : goal.take_turns-requires-clause-wait
take_turns-requires-clause-wait g c κs within =
    let shared = c.args.shared in
    let items : List (Seat g.row.A.Denot) = c.in-Ok.seats.taken.items in
    let of_phase = seated (IsPassOf (board_of shared)) items c.args.passes.items c.in-Ok.ensures.passes c.requires.of_phase in
    let blank = seated (IsBlank (phase_opened shared)) items c.args.passes.items c.in-Ok.ensures.passes c.requires.blank in
    let wait : All (λ s. MayCall shared s.pass) items = λ k d lt. record { is_open = c.requires.open; of_phase = of_phase k d lt; blank = blank k d lt } in
    subst (All (λ (s : Seat g.row.A.Denot). MayCall shared s.pass)) (sym c.deref_mut.ensures.value) wait

pub parted-passes-requires-clause-answered : goal.parted-passes-requires-clause-answered
parted-passes-requires-clause-answered g c =
    let now : List (Seat g.row.A.Denot) = c.take_turns.new.seats in
    let whole = lent_back now c.in-Ok.seats.taken.items c.in-Ok.seats.taken.len (c.take_turns.ensures.len ∙ ap length c.deref_mut.ensures.value) c.in-Ok.seats.taken.ok.0 in
    let answered : All (λ s. IsSome s.answer) now = λ k d lt. some_of _ _ (c.take_turns.ensures.took k d lt).told in
    subst (All (λ (s : Seat g.row.A.Denot). IsSome s.answer)) (sym whole) answered

pub close-requires-2-clause-passes : goal.close-requires-2-clause-passes
close-requires-2-clause-passes g c =
    let now : List (Seat g.row.A.Denot) = c.take_turns.new.seats in
    let whole = lent_back now c.in-Ok.seats.taken.items c.in-Ok.seats.taken.len (c.take_turns.ensures.len ∙ ap length c.deref_mut.ensures.value) c.in-Ok.seats.taken.ok.0 in
    unseated (IsPassOf (board_of c.args.shared)) now c.parted-passes.result.0.items (c.parted-passes.ensures.passes ∙ ap passes_of whole) (λ k d lt. (c.take_turns.ensures.took k d lt).pass)

pub returns-clause-ran : goal.returns-clause-ran
returns-clause-ran g c =
    let phase = phase_opened c.args.shared in
    let items : List (Seat g.row.A.Denot) = c.in-Ok.seats.taken.items in
    let now : List (Seat g.row.A.Denot) = c.take_turns.new.seats in
    let ends = c.parted-passes.result.0.items in
    let len : length now ≡ length items = c.take_turns.ensures.len ∙ ap length c.deref_mut.ensures.value in
    let whole = lent_back now items c.in-Ok.seats.taken.len len c.in-Ok.seats.taken.ok.0 in
    let passes = c.parted-passes.ensures.passes ∙ ap passes_of whole in
    let answers = c.parted-passes.ensures.answers ∙ ap answers_of whole in
    let came_back : length ends ≡ phase.passes = count_of_passes now ends passes ∙ len ∙ sym (count_of_passes items c.args.passes.items (sym c.in-Ok.ensures.passes)) ∙ c.requires.whole in
    record {
      ends = ends;
      came_back = came_back;
      told = told _ now ends c.parted-passes.result.1.items passes answers (λ k d lt. (c.take_turns.ensures.took k d lt).told);
      closes = c.close-2.ensures.closed;
      once = c.close-2.ensures.once;
      taken_up = c.close-2.ensures.taken_up;
      theirs = c.close-2.ensures.theirs came_back;
      used_up = c.close-2.ensures.spent;
    }

pub returns-clause-answers : goal.returns-clause-answers
returns-clause-answers g c =
    let items : List (Seat g.row.A.Denot) = c.in-Ok.seats.taken.items in
    let now : List (Seat g.row.A.Denot) = c.take_turns.new.seats in
    let len : length now ≡ length items = c.take_turns.ensures.len ∙ ap length c.deref_mut.ensures.value in
    let whole = lent_back now items c.in-Ok.seats.taken.len len c.in-Ok.seats.taken.ok.0 in
    count_of_answers now c.parted-passes.result.1.items (c.parted-passes.ensures.answers ∙ ap answers_of whole) ∙ len ∙ sym (count_of_passes items c.args.passes.items (sym c.in-Ok.ensures.passes))
