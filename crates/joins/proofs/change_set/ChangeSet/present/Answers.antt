use Rattle.std.proofs.Common.{ap, sym, ◌∙◌, is_some}
use Rattle.joins.proofs.Holding.{value_here, present_here}
use Rattle.joins.proofs.change_set.ChangeSet.present.Goals as goal

pub get-requires : goal.get-requires
get-requires g c =
    let there = present_here _ _ _ c.self.view_is c.requires in
    ap is_some (c.unprotected_storage.ensures.present _ there) ∙ there

pub returns : goal.returns
returns g c =
    let there = present_here _ _ _ c.self.view_is c.requires in
    value_here _ _ _ c.self.view_is c.get.result.now (sym (c.unprotected_storage.ensures.present _ there) ∙ c.get.ensures)
