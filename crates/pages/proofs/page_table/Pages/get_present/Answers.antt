use Rattle.std.proofs.Common.{arith, sym, ◌∙◌}
use Rattle.pages.proofs.TableLemmas.{seen_item, seen_there, spot_within, read_spot}
use Rattle.pages.proofs.page_table.Pages.get_present.Goals as goal

pub spot_of-spot-requires : goal.spot_of-spot-requires
spot_of-spot-requires g c = record { some = c.self.invariant.some; page = seen_there _ g.T.Item.FILLER _ _ _ c.self.view_is _ c.requires }

pub index-requires : goal.index-requires
index-requires g c =
    let i = spot_within _ g.T.Item.FILLER _ _ c.self.invariant c.args.at _ (seen_there _ g.T.Item.FILLER _ _ _ c.self.view_is _ c.requires) c.spot_of-spot.ensures in
    omega (arith, i)

pub returns : goal.returns
returns g c =
    read_spot _ _ _ _ c.self.invariant c.args.at _ (seen_there _ g.T.Item.FILLER _ _ _ c.self.view_is _ c.requires) c.spot_of-spot.ensures _ c.index.ensures
    ∙ sym (seen_item _ _ _ _ c.self.invariant.some _ c.self.view_is c.args.at)
