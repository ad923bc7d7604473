use Rattle.std.proofs.Common.{rules, ◌≡◌}
use Rattle.std.specs.Prelude.{Err}
use Rattle.storages.specs.ReadView.{found}
use Rattle.saveload.proofs.save.save_one.Goals as goal

pub returns-in_ok-components-in-Some-clause-saved : goal.returns-in_ok-components-in-Some-clause-saved
returns-in_ok-components-in-Some-clause-saved g c = record {
  own = search rules;
  row = c.in_ok-components-in-Some.ensures.saved (λ x. found c.args.markers.now x) (λ x r h p. let answered : r ≡ found c.args.markers.now x = search rules in answered);
}

pub returns-in_err-components-in-Some-clause-refused : goal.returns-in_err-components-in-Some-clause-refused
returns-in_err-components-in-Some-clause-refused g c =
    let same : c.from_residual.result ≡ Err c.in_err-components-in-Some.field-0.0 = search rules in
    rw same (c.in_err-components-in-Some.ensures.refused (λ x. found c.args.markers.now x) (λ x r h p. let answered : r ≡ found c.args.markers.now x = search rules in answered))
