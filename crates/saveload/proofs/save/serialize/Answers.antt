use Rattle.std.proofs.Common.{rules, ◌≡◌, sym, subst, List}
use Rattle.std.specs.Prelude.{IfOk}
use Rattle.entities.specs.declared.entity.Entity.{Entity}
use Rattle.entities.specs.Census.{population}
use Rattle.storages.specs.ReadView.{found, slot, entities_of}
use Rattle.saveload.specs.Conversion.{AllNamed}
use Rattle.saveload.specs.Saved.{IsSavedList, all_marked, marked_read}
use Rattle.saveload.proofs.Marked.{all_marked_named}
use Rattle.saveload.proofs.Saving.{if_ok}
use Rattle.saveload.proofs.Whole.{saved_holds, saved_distinct, marked_once, whole_in, if_ok_on}
use Rattle.saveload.proofs.save.serialize.Goals as goal

pub save_list-requires : goal.save_list-requires
save_list-requires g c =
    let begun : c.deref.result.now ≡ all_marked (population (entities_of c.args.markers.now)) (slot c.args.markers.now) = search rules in
    subst (AllNamed (λ e. found c.args.markers.now e)) (sym begun) (all_marked_named (entities_of c.args.markers.now) (slot c.args.markers.now))

pub returns-clause-saved : goal.returns-clause-saved
returns-clause-saved g c =
    let begun : c.deref.result.now ≡ all_marked (population (entities_of c.args.markers.now)) (slot c.args.markers.now) = search rules in
    subst (λ (l : List Entity). IfOk c.save_list.result (λ rs. IsSavedList g.P.SerializeComponents.conversion (λ e. found c.args.markers.now e) (λ e. g.P.SerializeComponents.values c.args.places.now e) l rs.items)) begun c.save_list.ensures.saved

pub returns-clause-holds : goal.returns-clause-holds
returns-clause-holds g c =
    let convert = g.P.SerializeComponents.conversion in
    let values = λ (e : Entity). g.P.SerializeComponents.values c.args.places.now e in
    let beside : c.fetched_entities.result.now ≡ entities_of c.args.markers.now = search rules in
    let seen : c.storage.result.now ≡ slot c.args.markers.now = search rules in
    let begun : c.in_ok-list.list.items ≡ marked_read c.args.markers.now = search rules in
    let whole = whole_in c.fetched_entities.result.now (entities_of c.args.markers.now) c.storage.result.now (slot c.args.markers.now) c.in_ok-list.list.items (marked_read c.args.markers.now) beside seen begun c.in_ok-list.ensures.whole in
    if_ok_on c.save_list.result (λ rs h. saved_holds convert (λ e. found c.args.markers.now e) values (marked_read c.args.markers.now) rs.items h
    whole) (returns-clause-saved g c)

pub returns-clause-distinct : goal.returns-clause-distinct
returns-clause-distinct g c = λ apart.
    if_ok c.save_list.result (λ rs h. saved_distinct g.P.SerializeComponents.conversion (λ e. found c.args.markers.now e) (λ e. g.P.SerializeComponents.values c.args.places.now e) g.M.Marker.id_of apart (marked_read c.args.markers.now) rs.items h
    (marked_once (population (entities_of c.args.markers.now)) (slot c.args.markers.now))) (returns-clause-saved g c)
