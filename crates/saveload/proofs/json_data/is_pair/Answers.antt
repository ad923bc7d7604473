use Rattle.std.proofs.Common.{◌≡◌, Some, refl, rules}
use Rattle.serde_json.specs.Find.{as_object}
use Rattle.serde_json.specs.View.{view, members_view}
use Rattle.serde_json.proofs.Views.{members_len-members_view}
use Rattle.saveload.proofs.json_data.is_pair.Goals as goal

pub returns-in-Some : goal.returns-in-Some
returns-in-Some c =
    let e : as_object (view c.args.value.now) ≡ Some (members_view c.in-Some.map.now.entries) = search rules in
    rw (e, members_len-members_view c.in-Some.map.now.entries, ← c.len.ensures.len) refl
