use Rattle.std.proofs.Common.{rules, ◌≡◌, sym, subst, List, option_and_then, ap, ◌∙◌, string_bytes}
use Rattle.entities.specs.declared.entity.Entity.{Entity}
use Rattle.entities.specs.Census.{population}
use Rattle.serde_json.specs.Written.{compact_text}
use Rattle.storages.specs.ReadView.{found, slot, entities_of}
use Rattle.saveload.specs.Conversion.{AllNamed}
use Rattle.saveload.specs.Json.{list_json, list_from}
use Rattle.saveload.specs.Saved.{IsSavedList, all_marked, marked_read}
use Rattle.saveload.proofs.Kept.{text_read}
use Rattle.saveload.proofs.Marked.{all_marked_named}
use Rattle.saveload.proofs.Whole.{saved_holds, saved_distinct, marked_once, whole_in}
use Rattle.saveload.proofs.save_text.serialize_to_json.Goals as goal

pub write_saved-requires : goal.write_saved-requires
write_saved-requires g c =
    let begun : c.deref.result.now ≡ all_marked (population (entities_of c.args.markers.now)) (slot c.args.markers.now) = search rules in
    subst (AllNamed (λ e. found c.args.markers.now e)) (sym begun) (all_marked_named (entities_of c.args.markers.now) (slot c.args.markers.now))

pub returns-clause-saved : goal.returns-clause-saved
returns-clause-saved g c =
    let begun : c.deref.result.now ≡ marked_read c.args.markers.now = search rules in
    let some = c.in_ok-write_saved.ensures.saved in
    let text : string_bytes c.write_saved.new.text ≡ compact_text (list_json g.M.JsonData.json g.P.Data.JsonPlaces.places some.0) = search rules in
    record {
      list = some.0;
      saved = subst (λ (l : List Entity). IsSavedList g.P.SerializeComponents.conversion (λ e. found c.args.markers.now e) (λ e. g.P.SerializeComponents.values c.args.places.now e) l some.0) begun some.1;
      written = text;
      reads_back =
          ap (option_and_then (list_from g.M.JsonData.from g.P.Data.JsonPlaces.from))
          (text_read g.M.JsonData.json g.M.JsonData.from g.P.Data.JsonPlaces.places g.P.Data.JsonPlaces.from g.met.M.JsonData.shallow g.met.P.Data.JsonPlaces.shallow some.0 _ text some.2.1)
          ∙ some.2.1.1;
    }

pub returns-clause-holds : goal.returns-clause-holds
returns-clause-holds g c =
    let beside : c.fetched_entities.result.now ≡ entities_of c.args.markers.now = search rules in
    let seen : c.storage.result.now ≡ slot c.args.markers.now = search rules in
    let begun : c.in_ok-list.list.items ≡ marked_read c.args.markers.now = search rules in
    let whole = whole_in c.fetched_entities.result.now (entities_of c.args.markers.now) c.storage.result.now (slot c.args.markers.now) c.in_ok-list.list.items (marked_read c.args.markers.now) beside seen begun c.in_ok-list.ensures.whole in
    let text = returns-clause-saved g c in
    saved_holds g.P.SerializeComponents.conversion (λ e. found c.args.markers.now e) (λ e. g.P.SerializeComponents.values c.args.places.now e) (marked_read c.args.markers.now) text.list text.saved
    whole

pub returns-clause-distinct : goal.returns-clause-distinct
returns-clause-distinct g c = λ apart.
    let text = returns-clause-saved g c in
    record {
      list = text.list;
      saved = saved_distinct g.P.SerializeComponents.conversion (λ e. found c.args.markers.now e) (λ e. g.P.SerializeComponents.values c.args.places.now e) g.M.Marker.id_of apart (marked_read c.args.markers.now) text.list text.saved
          (marked_once (population (entities_of c.args.markers.now)) (slot c.args.markers.now));
      written = text.written;
      reads_back = text.reads_back;
    }
