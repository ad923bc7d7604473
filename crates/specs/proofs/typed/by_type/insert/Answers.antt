use Rattle.std.proofs.Common.{◌∙◌, ap}
use Rattle.std.specs.Prelude.{Some, option_map}
use Rattle.specs.specs.Typed.Shows.{column_as}
use Rattle.specs.specs.Typed.Field.{field_column, column_of}
use Rattle.specs.specs.Typed.Shown.{if_ok, on_err, in_slot, field_inserts, shown_inserts, shown_same}
use Rattle.specs.proofs.typed.by_type.insert.Goals as goal

pub returns-in-Some-clause-ok : goal.returns-in-Some-clause-ok
returns-in-Some-clause-ok g c =
    let value = g.S.Has.as_value in
    let laws = g.met.S.Has in
    let old = c.args.storages.now in
    let s = c.in-Some.storage.now in
    let w = c.insert_in.new.storage in
    let new = g.S.Field.with_part old w in
    let shows = in_slot g.S.Has.the_slot value (g.S.Held.table old) (g.S.Held.table new) (Some (column_of s)) (Some (column_of w))
    (laws.sees old ∙ ap (λ x. option_map (column_as value) (field_column x)) c.in-Some.ensures.value)
    (laws.sees new ∙ ap (λ x. option_map (column_as value) (field_column x)) (g.met.S.Field.puts old w))
    (laws.only old w) in
    if_ok c.insert_in.result _ _ (λ before i. shown_inserts shows _ g.S.Held.place _ c.args.e c.args.component before (laws.places c.args.component) (field_inserts _ _ _ c.args.e c.args.component before i)) c.insert_in.ensures.ok

pub returns-in-Some-clause-succeeds : goal.returns-in-Some-clause-succeeds
returns-in-Some-clause-succeeds g c = λ held room. c.insert_in.ensures.succeeds (rw c.in-Some.ensures.value at held) (rw c.in-Some.ensures.value at room)

pub returns-in-Some-clause-err : goal.returns-in-Some-clause-err
returns-in-Some-clause-err g c =
    let value = g.S.Has.as_value in
    let laws = g.met.S.Has in
    let old = c.args.storages.now in
    let s = c.in-Some.storage.now in
    let w = c.insert_in.new.storage in
    let new = g.S.Field.with_part old w in
    let shows = in_slot g.S.Has.the_slot value (g.S.Held.table old) (g.S.Held.table new) (Some (column_of s)) (Some (column_of w))
    (laws.sees old ∙ ap (λ x. option_map (column_as value) (field_column x)) c.in-Some.ensures.value)
    (laws.sees new ∙ ap (λ x. option_map (column_as value) (field_column x)) (g.met.S.Field.puts old w))
    (laws.only old w) in
    on_err c.insert_in.result (λ same. shown_same shows (ap (λ m. λ (u : Unit {0}). Some m) same)) c.insert_in.ensures.err
