use Rattle.std.proofs.Common.{rules, ◌≡◌, ◌∙◌, refl}
use Rattle.std.specs.Prelude.{Err}
use Rattle.std.proofs.lemmas.Iterator.Adapters.{YieldsList-from_vec}
use Rattle.saveload.specs.Told.{told_both}
use Rattle.saveload.specs.Told.IsTold.{start}
use Rattle.saveload.proofs.Named.{loads_more}
use Rattle.saveload.proofs.Stopped.{split}
use Rattle.saveload.proofs.Telling.{stores_more}
use Rattle.saveload.proofs.load.deserialize.Goals as goal

pub loop-saved-init : goal.loop-saved-init
loop-saved-init g c = (g.met.P.DeserializeComponents.changes_self c.args.masked.now, start, refl, refl)

pub loop-saved-preserved : goal.loop-saved-preserved
loop-saved-preserved g c = (
  g.met.P.DeserializeComponents.changes_both _ _ _ c.loop-saved.invariant.0 c.in_ok-load_record.ensures.changes,
  told_both _ _ _ c.loop-saved.invariant.1 c.in_ok-load_record.ensures.told,
  loads_more g.M.Marker.id_of g.M.Identifier.PartialEq.eq g.P.DeserializeComponents.conversion _ _ _ c.loop-saved.yielded c.in-Some.saved c.loop-saved.invariant.2 c.in_ok-load_record.ensures.loaded,
  stores_more g.P.DeserializeComponents.Stores g.P.DeserializeComponents.conversion _ _ _ c.loop-saved.yielded c.in-Some.saved c.loop-saved.invariant.3 c.in_ok-load_record.ensures.each,
)

pub returns-in_err-load_record-clause-changes : goal.returns-in_err-load_record-clause-changes
returns-in_err-load_record-clause-changes g c = g.met.P.DeserializeComponents.changes_both _ _ _ c.loop-saved.invariant.0 c.in_err-load_record.ensures.changes

pub returns-in_err-load_record-clause-told : goal.returns-in_err-load_record-clause-told
returns-in_err-load_record-clause-told g c = told_both _ _ _ c.loop-saved.invariant.1 c.in_err-load_record.ensures.told

pub returns-clause-told : goal.returns-clause-told
returns-clause-told g c = c.loop-saved.invariant.1

pub returns-in_err-load_record-clause-refused : goal.returns-in_err-load_record-clause-refused
returns-in_err-load_record-clause-refused g c =
    let same : c.from_residual.result ≡ Err c.in_err-load_record.field-0.0 = search rules in
    rw same (record {
      before = c.loop-saved.yielded;
      refused = c.in-Some.saved;
      rest = _;
      list = split (YieldsList-from_vec {s = c.into_iter-saved-iterator.result} c.args.list.items c.into_iter-saved-iterator.ensures.into_iter_gives.0 (c.into_iter-saved-iterator.ensures.into_iter_gives.1 ∙ c.args.list.ok.0)) c.loop-saved.yielded c.loop-saved.saved-iterator c.loop-saved.yielded_by _ c.next.new.self c.in-Some.saved c.in-Some.is c.next.ensures.steps;
      mid = _;
      loaded = c.loop-saved.invariant.2;
      stopped = c.in_err-load_record.ensures.refused;
    })
