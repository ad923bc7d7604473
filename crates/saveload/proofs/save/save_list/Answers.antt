use Rattle.std.proofs.Common.{rules, ◌≡◌, ◌++◌, ◌∷◌, [], take}
use Rattle.std.specs.Prelude.{pos, Err}
use Rattle.std.proofs.lemmas.List.{take_more}
use Rattle.storages.specs.ReadView.{found}
use Rattle.saveload.proofs.Lists.{has_at}
use Rattle.saveload.proofs.Saving.{saved_more}
use Rattle.saveload.proofs.Marked.{list_refused}
use Rattle.saveload.proofs.save.save_list.Goals as goal

pub loop-e-preserved : goal.loop-e-preserved
loop-e-preserved g c =
    let pushed : c.push.new.self.items ≡ c.loop-e.records.items ++ c.in_ok-saved.saved ∷ [] = search rules in
    rw (take_more c.args.list.now c.loop-e.e-index (0, record { 0 = pos 0 }) c.loop-e-test.true, pushed)
    (saved_more g.P.SerializeComponents.conversion (λ x. found c.args.markers.now x) (λ x. g.P.SerializeComponents.values c.args.places.now x) (take c.loop-e.e-index c.args.list.now) c.loop-e.records.items _ c.in_ok-saved.saved c.loop-e.invariant c.in_ok-saved.ensures.saved)

pub returns-in_err-saved-clause-refused : goal.returns-in_err-saved-clause-refused
returns-in_err-saved-clause-refused g c =
    let same : c.from_residual-in_err-saved.result ≡ Err c.in_err-saved.field-0.0 = search rules in
    rw same (list_refused g.P.SerializeComponents.conversion _ (λ e. g.P.SerializeComponents.values c.args.places.now e) c.args.list.now _ _
    (has_at c.args.list.now c.loop-e.e-index (0, record { 0 = pos 0 }) c.loop-e-test.true) c.in_err-saved.ensures.refused)

pub save_one-requires : goal.save_one-requires
save_one-requires g c = c.requires _ (has_at c.args.list.now c.loop-e.e-index (0, record { 0 = pos 0 }) c.loop-e-test.true)
