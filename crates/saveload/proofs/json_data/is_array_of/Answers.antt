use Rattle.std.proofs.Common.{◌≡◌, Some, refl, rules, arith, length}
use Rattle.serde_json.specs.Find.{as_array}
use Rattle.serde_json.specs.View.{view, items_view}
use Rattle.saveload.proofs.JsonLists.{items_length}
use Rattle.saveload.proofs.json_data.is_array_of.Goals as goal

pub returns-in-Some : goal.returns-in-Some
returns-in-Some c =
    let e : as_array (view c.args.value.now) ≡ Some (items_view c.in-Some.list.now.items) = search rules in
    let n : c.len.result ≡ length c.in-Some.list.now.items = omega (arith, c.len.ensures) in
    rw (e, items_length c.in-Some.list.now.items, n) refl
