use Rattle.std.proofs.Common.{◌≡◌, Some, refl, rules, arith, length}
use Rattle.serde_json.specs.Find.{as_array}
use Rattle.serde_json.specs.View.{view, items_view}
use Rattle.serde_json.proofs.Views.{items_len-items_view}
use Rattle.callers.proofs.spots.has_two.Goals as goal

pub returns-in-Some : goal.returns-in-Some
returns-in-Some c =
    let e : as_array (view c.args.value.now) ≡ Some (items_view c.in-Some.list.now.items) = search rules in
    let n : c.len.result ≡ length c.in-Some.list.now.items = omega (arith, c.len.ensures) in
    rw (e, items_len-items_view c.in-Some.list.now.items, n) refl
