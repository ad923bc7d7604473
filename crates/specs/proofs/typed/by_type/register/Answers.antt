use Rattle.std.proofs.Common.{rules, ◌≡◌, ◌∙◌, ap, None}
use Rattle.std.specs.Prelude.{option_map}
use Rattle.specs.specs.Typed.Shows.{column_as}
use Rattle.specs.specs.Typed.Field.{field_column, column_of}
use Rattle.specs.specs.Typed.Shown.{registers_fresh, others_stay}
use Rattle.specs.proofs.typed.by_type.register.Goals as goal

pub returns-in_ok-storage-clause-ok : goal.returns-in_ok-storage-clause-ok
returns-in_ok-storage-clause-ok g c =
    let value = g.S.Has.as_value in
    let laws = g.met.S.Has in
    let old = c.args.storages.now in
    let w = c.in_ok-storage.storage in
    let new = g.S.Field.with_part old w in
    let none : g.S.Field.part old ≡ None = search rules in
    rw c.set_field.ensures (registers_fresh value g.S.Has.the_slot (g.S.Held.table old) (g.S.Held.table new) (column_of w) (laws.sees old ∙ ap (λ x. option_map (column_as value) (field_column x)) none)
    (laws.sees new ∙ ap (λ x. option_map (column_as value) (field_column x)) (g.met.S.Field.puts old w)) c.in_ok-storage.ensures.fresh
    (others_stay g.S.Has.the_slot (g.S.Held.table old) (g.S.Held.table new) (laws.only old w)))
