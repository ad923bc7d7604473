use Rattle.std.proofs.Common.{◌≡◌, true, length-set, rules, arith, ◌∙◌, sym}
use Rattle.std.specs.Prelude.{Result, Ok, Err, IfOk}
use Rattle.std.specs.Result.{is_ok}
use Rattle.std.proofs.lemmas.Bool.{false≢true}
use Rattle.std.proofs.lemmas.List.{get_or-set_same}
use Rattle.entities.specs.Census.{population}
use Rattle.entities.specs.Phase.Opened.{phase_opened}
use Rattle.entities.specs.Phase.Laws.{newly_marked, marked_then}
use Rattle.callers.proofs.phases.marked_at_closing.Goals as goal

ok_then : {T E : Type 0} (r : Result T E) (P : Type 0) → is_ok r ≡ true → IfOk r (λ _. P) → P
ok_then (Ok x) P is h = h
ok_then (Err e) P is h = absurd (false≢true is)

pub returns-in-Ok : goal.returns-in-Ok
returns-in-Ok c deleted =
    let items = c.in-Ok.passes.items in
    let a = c.delete-deleted.new.pass in
    let one = c.in-Ok.ensures.passes.1 in
    let marked : (population c.close.new.self.0).marked c.args.entity.0 ≡ true =
    marked_then (phase_opened c.in-Ok.shared) _ 0 a c.args.entity.0 _ c.close.ensures.taken_up (omega (arith, one, length-set items 0 a)) (get_or-set_same items 0 a a (omega (arith, one)))
    (newly_marked _ _ a _ c.args.entity.0 (ok_then c.delete-deleted.result _ (sym c.is_ok.ensures.value ∙ deleted) c.delete-deleted.ensures.gains)) in
    search (marked, rules)
