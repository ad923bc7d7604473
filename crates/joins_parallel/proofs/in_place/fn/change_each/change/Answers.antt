use Rattle.std.proofs.Common.{rules, refl}
use Rattle.joins_parallel.proofs.in_place.fn.change_each.change.Goals as goal

pub returns-then-is_member : goal.returns-then-is_member
returns-then-is_member g c = record {
  changed = λ h. record { component = _; component_is = refl; item = c.at.result; beside = search rules; after_call = _; call = c.f.ensures; left = refl };
  others = λ h. search rules;
}
