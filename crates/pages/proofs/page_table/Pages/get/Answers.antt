use Rattle.std.proofs.Common.{◌-◌, ◌*◌, ◌%◌, ◌+◌, arith, ap, sym, ◌∙◌}
use Rattle.pages.proofs.TableLemmas.{seen_item, none_there, spot_within, read_spot}
use Rattle.pages.proofs.page_table.Pages.get.Goals as goal

pub returns-then-entry-eq0 : goal.returns-then-entry-eq0
returns-then-entry-eq0 g c =
    c.FILLER.ensures
    ∙ sym (seen_item _ _ _ _ c.self.invariant.some _ c.self.view_is c.args.at ∙ none_there _ _ _ _ c.args.at (sym c.entry_of-entry.ensures ∙ c.if-entry-eq0.true))

pub index-requires : goal.index-requires
index-requires g c =
    let i = spot_within _ g.T.Item.FILLER c.self.inside.table.items _ c.self.invariant c.args.at c.spot_in.result (omega (arith, c.if-entry-eq0.false)) (c.spot_in.ensures ∙ ap (λ e. (e - 1) * g.row.LEN + c.args.at % g.row.LEN) c.entry_of-entry.ensures) in
    omega (arith, i)

pub returns : goal.returns
returns g c =
    read_spot _ _ c.self.inside.table.items _ c.self.invariant c.args.at c.spot_in.result (omega (arith, c.if-entry-eq0.false)) (c.spot_in.ensures ∙ ap (λ e. (e - 1) * g.row.LEN + c.args.at % g.row.LEN) c.entry_of-entry.ensures) _ c.index.ensures
    ∙ sym (seen_item _ _ _ _ c.self.invariant.some _ c.self.view_is c.args.at)
