use Rattle.std.proofs.Common.{◌≡◌, ◌+◌, ◌*◌, ◌/◌, ◌<◌, length, get_or, rules, arith, ap, sym, ◌∙◌, inl, inr, eq-eqb}
use Rattle.std.proofs.lemmas.Bool.{cases_eq, true≢false}
use Rattle.std.specs.Result.{is_ok}
use Rattle.std.specs.FinSet as set
use Rattle.pages.specs.Joined.{IsJoined, joined, with_first}
use Rattle.pages.proofs.RowLemmas.{page_is_there, taken_or_not}
use Rattle.pages.proofs.paged_row.PagedRow.take_next.Given.{Over}
use Rattle.pages.proofs.paged_row.PagedRow.take_next.Goals as goal

taken : (g : Over) (c : goal.After-is_ok g) → (IsJoined g.row.LEN g.T.Item.FILLER c.extend_from_slice.new.self.items c.self.inside.behind) × (joined c.extend_from_slice.new.self.items c.self.inside.behind.items ≡ joined c.self.inside.row.items c.self.inside.behind.items) × (with_first c.self.inside.behind.pages (length c.extend_from_slice.new.self.items / g.row.LEN) ≡ with_first c.self.inside.behind.pages (length c.self.inside.row.items / g.row.LEN))
taken g c =
    let n : c.len.result ≡ length c.self.inside.row.items = omega arith in
    let at : c.in-Ok.page ≡ c.len.result / g.row.LEN = search rules in
    let page : c.in-Ok.page ≡ length c.self.inside.row.items / g.row.LEN = at ∙ ap (λ m. m / g.row.LEN) n in
    let some : 0 < length c.page-items.result.now =
    elim (cases_eq (length c.page-items.result.now) 0) [
      | inl z ↦ absurd (true≢false (sym (eq-eqb _ 0 z) ∙ sym c.is_empty.ensures ∙ c.if-is_empty.false))
      | inr other ↦ omega (arith, other)
    ] in
    let there = page_is_there _ _ g.row.LEN c.page-items.ensures.len some in
    taken_or_not g.row.LEN g.T.Item.FILLER c.self.inside.row.items c.extend_from_slice.new.self.items c.page-items.result.now c.self.inside.behind c.self.invariant (is_ok c.extend_from_slice.result) c.extend_from_slice.ensures.items
    (ap (set.contains c.self.inside.behind.pages) (sym page) ∙ there.0)
    there.1
    (λ i lt. c.page-items.ensures.items i lt ∙ ap (λ k. get_or c.self.inside.behind.items (k * g.row.LEN + i) g.T.Item.FILLER) page)

pub invariant_of-self : goal.invariant_of-self
invariant_of-self g c = (taken g c).0

pub returns : goal.returns
returns g c = let t = taken g c in rw (t.1, t.2) c.self.view_is
