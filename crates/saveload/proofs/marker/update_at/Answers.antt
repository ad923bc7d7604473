use Rattle.std.proofs.Common.{rules, ◌≡◌, ap, sym, ◌∙◌, Some}
use Rattle.std.specs.Prelude.{IsOk}
use Rattle.saveload.proofs.Ids.{ids-updated}
use Rattle.saveload.proofs.Telling.{written_told}
use Rattle.saveload.specs.Told.IsTold.{start, same}
use Rattle.saveload.proofs.marker.update_at.Goals as goal

pub returns-in-Ok-clause-ids : goal.returns-in-Ok-clause-ids
returns-in-Ok-clause-ids g c =
    let kept : g.M.Marker.id_of c.update.new.self ≡ g.M.Marker.id_of c.args.marker = search rules in
    let ok : IsOk c.get_mut.result = search rules in
    ids-updated g.M.Marker.id_of c.args.storage.now (c.get_mut.follows.lender c.update.new.self) c.args.index c.update.new.self ((c.get_mut.follows.holds c.update.new.self).becomes ok).map (c.requires ∙ ap Some (sym kept))

pub returns-in-Ok-clause-told : goal.returns-in-Ok-clause-told
returns-in-Ok-clause-told g c =
    let ok : IsOk c.get_mut.result = search rules in
    written_told g.M.Marker.id_of c.args.storage.now (c.get_mut.follows.lender c.update.new.self) c.args.index c.update.new.self _ c.requires ((c.get_mut.follows.holds c.update.new.self).becomes ok)

pub returns-in-Err-clause-told : goal.returns-in-Err-clause-told
returns-in-Err-clause-told g c =
    let refused = c.get_mut.follows.holds-at-none.same in
    same _ _ start (rw c.in-Err.is at refused)
