use Rattle.std.proofs.Common.{◌∙◌, ap, rules, ◌+◌}
use Rattle.storages.specs.declared.event.ComponentEvent.TheVariants.{Inserted}
use Rattle.storages.specs.Unread.{written}
use Rattle.storages.proofs.Telling.{puts}
use Rattle.storages.proofs.flagged.FlaggedStorageUnprotectedStorage.insert.Goals as goal

pub returns-clause-ok : goal.returns-clause-ok
returns-clause-ok g c =
    let kept = c.in-Ok.ensures.keeps in
    puts _ _ _ _ _ _ _ _ (search rules)
    (c.write_reserved.ensures.registered ∙ kept.registered)
    (c.write_reserved.ensures.readers ∙ ap (written (Inserted c.args.id)) kept.readers)
    (c.write_reserved.ensures.needs_room ∙ kept.needs_room)
    (λ n h. c.write_reserved.ensures.room n (kept.room (n + 1) h))
    c.in-Ok-insert.ensures.ok
