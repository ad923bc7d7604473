use Rattle.std.proofs.Common.{rules, ◌≡◌, ◌∙◌, ap, Some, None}
use Rattle.std.specs.Prelude.{option_map, is_some}
use Rattle.specs.specs.Typed.Shows.{column_as}
use Rattle.specs.specs.Typed.Field.{field_column}
use Rattle.specs.specs.Slots.Column.{column_is}
use Rattle.specs.specs.Typed.Shown.{registers_as, no_values_as, others_stay}
use Rattle.specs.proofs.typed.by_type.register_with.Goals as goal

pub returns-then-is_none-clause-slice : goal.returns-then-is_none-clause-slice
returns-then-is_none-clause-slice g c = λ none. rw (c.set_field.ensures, g.met.S.Field.puts c.args.storages.now c.new.result) (c.new.ensures.extent, c.new.ensures.order)

pub returns-then-is_none-clause-registers : goal.returns-then-is_none-clause-registers
returns-then-is_none-clause-registers g c =
    let value = g.S.Has.as_value in
    let laws = g.met.S.Has in
    let old = c.args.storages.now in
    let w = c.new.result in
    let new = g.S.Field.with_part old w in
    let none : g.S.Field.part old ≡ None = search rules in
    rw c.set_field.ensures (registers_as g.S.Has.the_slot (g.S.Held.table old) (g.S.Held.table new) _ (laws.sees old ∙ ap (λ x. option_map (column_as value) (field_column x)) none)
    (laws.sees new ∙ ap (λ x. option_map (column_as value) (field_column x)) (g.met.S.Field.puts old w) ∙ ap Some (column_is (no_values_as value w.map c.new.ensures.map) c.new.ensures.channel (ap is_some c.new.ensures.inner_room)))
    (others_stay g.S.Has.the_slot (g.S.Held.table old) (g.S.Held.table new) (laws.only old w)))
