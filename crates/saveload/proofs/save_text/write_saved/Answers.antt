use Rattle.std.proofs.Common.{rules, ◌≡◌, take, subst, string_bytes, List}
use Rattle.std.specs.Prelude.{pos, Err}
use Rattle.std.proofs.lemmas.List.{take_all, take_more}
use Rattle.entities.specs.declared.entity.Entity.{Entity}
use Rattle.storages.specs.ReadView.{found}
use Rattle.saveload.specs.Json.{WritesSome}
use Rattle.saveload.specs.Saved.{IsSavedList}
use Rattle.saveload.proofs.Lists.{has_at}
use Rattle.saveload.proofs.Marked.{list_refused}
use Rattle.saveload.proofs.Writing.{writing_more, writing_end}
use Rattle.saveload.proofs.save_text.write_saved.Goals as goal

pub save_one-requires : goal.save_one-requires
save_one-requires g c = c.requires _ (has_at c.args.list.now c.loop-e.e-index (0, record { 0 = pos 0 }) c.loop-e-test.true)

pub returns-in_err-saved-clause-refused : goal.returns-in_err-saved-clause-refused
returns-in_err-saved-clause-refused g c =
    let same : c.from_residual-in_err-saved.result ≡ Err c.in_err-saved.field-0.0 = search rules in
    rw same (list_refused g.P.SerializeComponents.conversion _ (λ e. g.P.SerializeComponents.values c.args.places.now e) c.args.list.now _ _
    (has_at c.args.list.now c.loop-e.e-index (0, record { 0 = pos 0 }) c.loop-e-test.true) c.in_err-saved.ensures.refused)

pub loop-e-preserved : goal.loop-e-preserved
loop-e-preserved g c =
    rw (take_more c.args.list.now c.loop-e.e-index (0, record { 0 = pos 0 }) c.loop-e-test.true)
    (writing_more g.M.JsonData.json g.M.JsonData.from g.P.Data.JsonPlaces.places g.P.Data.JsonPlaces.from g.P.SerializeComponents.conversion (λ x. found c.args.markers.now x) (λ x. g.P.SerializeComponents.values c.args.places.now x)
    (take c.loop-e.e-index c.args.list.now) _ c.in_ok-saved.saved (string_bytes c.args.text.now) (string_bytes c.loop-e.text) (string_bytes c.push_str-in-loop-e.new.self) (string_bytes c.write_record.new.text) c.loop-e.separator.now
    c.loop-e.invariant c.in_ok-saved.ensures.saved c.in_ok-push_str-2.ensures.bytes c.in_ok-write_record.ensures)

pub returns-clause-saved : goal.returns-clause-saved
returns-clause-saved g c =
    let seen = λ (x : Entity). found c.args.markers.now x in
    let values = λ (x : Entity). g.P.SerializeComponents.values c.args.places.now x in
    let whole : take c.loop-e.e-index c.args.list.now ≡ c.args.list.now = take_all c.loop-e.e-index c.args.list.now c.loop-e-test.false in
    subst (λ (l : List Entity). WritesSome g.M.JsonData.json g.M.JsonData.from g.P.Data.JsonPlaces.places g.P.Data.JsonPlaces.from (IsSavedList g.P.SerializeComponents.conversion seen values l) (string_bytes c.args.text.now) (string_bytes c.push_str-2.new.self)) whole
    (writing_end g.M.JsonData.json g.M.JsonData.from g.P.Data.JsonPlaces.places g.P.Data.JsonPlaces.from g.P.SerializeComponents.conversion seen values (take c.loop-e.e-index c.args.list.now) (string_bytes c.args.text.now) (string_bytes c.loop-e.text) (string_bytes c.push_str-2.new.self) c.loop-e.separator.now
    c.loop-e.invariant c.in_ok-push_str-3.ensures.bytes)
