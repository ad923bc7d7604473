use Rattle.std.proofs.Common.{◌+◌, ◌-◌, ◌*◌, not, ◌==◌, length, take, drop, get_or, arith, ap, sym, ◌∙◌}
use Rattle.std.specs.Bool.{if◌then◌else◌}
use Rattle.std.proofs.lemmas.Bool.{ne_eqb}
use Rattle.pages.specs.Table.{item_in}
use Rattle.pages.proofs.TableLemmas.{seen_item, seen_page, item_of_page, read_there, part_within, length_part, item_part}
use Rattle.pages.proofs.page_table.Pages.page.Goals as goal

pub returns-then-entry-eq0-clause-len : goal.returns-then-entry-eq0-clause-len
returns-then-entry-eq0-clause-len g c =
    let p = seen_page _ g.T.Item.FILLER _ _ _ c.self.view_is c.args.page ∙ ap (λ n. not (n == 0)) (sym c.entry_of-entry.ensures ∙ c.if-entry-eq0.true) in
    sym (ap (λ b. if b then g.row.LEN else 0) p)

pub returns-then-entry-eq0-clause-items : goal.returns-then-entry-eq0-clause-items
returns-then-entry-eq0-clause-items g c j lt =
    sym (seen_item _ g.T.Item.FILLER _ _ c.self.invariant.some _ c.self.view_is (c.args.page * g.row.LEN + j)
    ∙ item_of_page _ g.T.Item.FILLER _ _ c.args.page j lt
    ∙ ap (λ e. item_in g.row.LEN g.T.Item.FILLER c.self.inside.items.items j e) (sym c.entry_of-entry.ensures ∙ c.if-entry-eq0.true))

pub returns-clause-len : goal.returns-clause-len
returns-clause-len g c =
    let e = c.entry_of-entry.result in
    let p = seen_page _ g.T.Item.FILLER _ _ _ c.self.view_is c.args.page ∙ ap (λ n. not (n == 0)) (sym c.entry_of-entry.ensures) ∙ ap not (ne_eqb _ _ c.if-entry-eq0.false) in
    ap (λ xs. length (take ((e - 1) * g.row.LEN + g.row.LEN - (e - 1) * g.row.LEN) (drop ((e - 1) * g.row.LEN) xs))) c.deref.ensures.value
    ∙ length_part _ g.T.Item.FILLER _ _ (part_within g.row.LEN e _ (omega (arith, c.if-entry-eq0.false)) (let w = c.self.invariant.within c.args.page in let m = ap (λ n. n * g.row.LEN) c.entry_of-entry.ensures in omega (arith, w, m)))
    ∙ sym (ap (λ b. if b then g.row.LEN else 0) p)

pub returns-clause-items : goal.returns-clause-items
returns-clause-items g c j lt =
    let e = c.entry_of-entry.result in
    ap (λ xs. get_or (take ((e - 1) * g.row.LEN + g.row.LEN - (e - 1) * g.row.LEN) (drop ((e - 1) * g.row.LEN) xs)) j g.T.Item.FILLER) c.deref.ensures.value
    ∙ item_part _ _ _ _ j lt
    ∙ sym (seen_item _ g.T.Item.FILLER _ _ c.self.invariant.some _ c.self.view_is (c.args.page * g.row.LEN + j)
    ∙ item_of_page _ g.T.Item.FILLER _ _ c.args.page j lt
    ∙ ap (λ n. item_in g.row.LEN g.T.Item.FILLER c.self.inside.items.items j n) (sym c.entry_of-entry.ensures)
    ∙ read_there _ _ _ e j (omega (arith, c.if-entry-eq0.false)))
