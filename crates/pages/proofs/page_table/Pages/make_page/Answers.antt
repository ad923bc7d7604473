use Rattle.std.proofs.Common.{◌≡◌, ◌+◌, ◌*◌, ◌/◌, suc, max, length, set as list_set, length-set, arith, refl, ap, sym, ◌∙◌}
use Rattle.std.specs.FinSet as set
use Rattle.std.specs.Vec.{vec_len}
use Rattle.pages.specs.Table.{pages_of}
use Rattle.pages.proofs.TableLemmas.{seen_item, seen_missing, seen_length, length-flat, get_or-flat, IsGrown, grown, next_entry, resized, max-mul}
use Rattle.pages.proofs.page_table.Pages.make_page.Given.{Over}
use Rattle.pages.proofs.page_table.Pages.make_page.Goals as goal

is_grown : (g : Over) (c : goal.After-self-1 g) → IsGrown g.row.LEN g.T.Item.FILLER c.self.inside.table.items (list_set c.reach.new.table.items (c.args.at / g.row.LEN) c.in-Ok.entry) c.self.inside.items.items c.resize.new.self.items (c.args.at / g.row.LEN)
is_grown g c =
    let n : c.len-len.result ≡ length c.self.inside.items.items = omega arith in
    let m : vec_len c.reserve.new.self ≡ length c.self.inside.items.items = omega arith in
    let entry : c.in-Ok.entry ≡ suc (set.len (pages_of c.self.inside.table.items)) = next_entry _ _ c.len-len.result c.in-Ok.entry c.self.invariant.some (n ∙ c.self.invariant.all) (omega arith) in
    let items = resized g.row.LEN (c.len-len.result + g.row.LEN) (vec_len c.reserve.new.self) _ _ _ _ g.T.Item.FILLER c.in-Ok-resize.ensures.items c.in_ok-reserve.ensures.items m (omega (arith, n)) c.FILLER.ensures in
    grown _ _ _ _ _ _ _ c.self.invariant c.reach.ensures.same (omega (arith, c.in_ok-reach.ensures.len)) (seen_missing _ g.T.Item.FILLER _ _ _ c.self.view_is _ c.requires) refl _ _ entry items

pub invariant_of-self-2 : goal.invariant_of-self-2
invariant_of-self-2 g c = (is_grown g c).sound

pub returns-clause-items : goal.returns-clause-items
returns-clause-items g c i =
    get_or-flat _ _ c.self.invariant.some _ _ i
    ∙ (is_grown g c).item i
    ∙ sym (seen_item _ _ _ _ c.self.invariant.some _ c.self.view_is i)

pub returns-clause-pages : goal.returns-clause-pages
returns-clause-pages g c = (is_grown g c).pages ∙ ap (λ s. set.insert s.pages (c.args.at / g.row.LEN)) c.self.view_is

pub returns-clause-len : goal.returns-clause-len
returns-clause-len g c =
    length-flat _ g.T.Item.FILLER _ _
    ∙ ap (λ n. n * g.row.LEN) (length-set c.reach.new.table.items _ _ ∙ c.in_ok-reach.ensures.len)
    ∙ max-mul _ _ _
    ∙ ap (λ n. max n ((c.args.at / g.row.LEN + 1) * g.row.LEN)) (sym (seen_length _ g.T.Item.FILLER _ _ _ c.self.view_is))
