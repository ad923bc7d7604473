use Rattle.std.proofs.Common.{set as list_set, arith, ap, ◌∙◌}
use Rattle.pages.proofs.TableLemmas.{seen_there, spot_within, flat_written}
use Rattle.pages.proofs.page_table.Pages.set.Goals as goal

pub spot_of-requires : goal.spot_of-requires
spot_of-requires g c = record { some = c.self.invariant.some; page = seen_there _ g.T.Item.FILLER _ _ _ c.self.view_is _ c.requires }

pub index_mut-requires : goal.index_mut-requires
index_mut-requires g c =
    let i = spot_within _ g.T.Item.FILLER _ _ c.self.invariant c.args.at _ (seen_there _ g.T.Item.FILLER _ _ _ c.self.view_is _ c.requires) c.spot_of.ensures in
    omega (arith, i)

pub returns-clause-items : goal.returns-clause-items
returns-clause-items g c =
    flat_written _ _ _ _ c.self.invariant c.args.at _ (seen_there _ g.T.Item.FILLER _ _ _ c.self.view_is _ c.requires) c.spot_of.ensures c.args.item
    ∙ ap (λ s. list_set s.items c.args.at c.args.item) c.self.view_is
