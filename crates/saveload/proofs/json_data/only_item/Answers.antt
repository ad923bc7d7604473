use Rattle.std.proofs.Common.{◌≡◌, Some, None, refl, rules, sym, arith}
use Rattle.serde_json.specs.Find.{as_array}
use Rattle.serde_json.specs.View.{view, items_view}
use Rattle.saveload.proofs.JsonLists.{not_one}
use Rattle.saveload.proofs.json_data.only_item.Goals as goal
use Rattle.saveload.proofs.json_data.only_item.Goals.{in_default-via-in-Some+else-len-eq1, in_default-via-in_default}

pub returns-in_default : goal.returns-in_default
returns-in_default c = elim c.in_default.branch [
  | in_default-via-in-Some+else-len-eq1 w ↦
      let e : as_array (view c.args.value.now) ≡ Some (items_view w.in-Some.list.now.items) = search rules in
      rw e (sym (not_one w.in-Some.list.now.items (λ one. w.if-len-eq1.false (omega (arith, one, w.len.ensures)))))
  | in_default-via-in_default w ↦
      let e : as_array (view c.args.value.now) ≡ None = search rules in
      rw e refl
]
