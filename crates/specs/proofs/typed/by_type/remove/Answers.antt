use Rattle.std.proofs.Common.{◌∙◌, ap}
use Rattle.std.specs.Prelude.{Some, option_map}
use Rattle.specs.specs.Typed.Shows.{column_as}
use Rattle.specs.specs.Typed.Field.{field_column, column_of}
use Rattle.specs.specs.Typed.Shown.{if_ok, in_slot, field_removes, shown_removes}
use Rattle.specs.proofs.typed.by_type.remove.Goals as goal

pub returns-in-Some-clause-ok : goal.returns-in-Some-clause-ok
returns-in-Some-clause-ok g c =
    let value = g.S.Has.as_value in
    let laws = g.met.S.Has in
    let old = c.args.storages.now in
    let s = c.in-Some.storage.now in
    let w = c.remove_in.new.storage in
    let new = g.S.Field.with_part old w in
    let shows = in_slot g.S.Has.the_slot value (g.S.Held.table old) (g.S.Held.table new) (Some (column_of s)) (Some (column_of w))
    (laws.sees old ∙ ap (λ x. option_map (column_as value) (field_column x)) c.in-Some.ensures.value)
    (laws.sees new ∙ ap (λ x. option_map (column_as value) (field_column x)) (g.met.S.Field.puts old w))
    (laws.only old w) in
    if_ok c.remove_in.result _ _ (λ found r. shown_removes shows _ tt c.args.e found (field_removes _ _ _ c.args.e found r)) c.remove_in.ensures.ok

pub returns-in-Some-clause-succeeds : goal.returns-in-Some-clause-succeeds
returns-in-Some-clause-succeeds g c = λ there room. c.remove_in.ensures.succeeds (rw c.in-Some.ensures.value at room)
