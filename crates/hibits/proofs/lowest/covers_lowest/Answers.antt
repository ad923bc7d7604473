use Rattle.std.proofs.Common.{◌≡◌, ◌-◌, ◌+◌, ◌*◌, ◌<◌, arith, ap, sym, refl, ◌∙◌, inl, inr}
use Rattle.std.proofs.lemmas.Bool.{cases_lt, true≢false}
use Rattle.hibits.specs.Rows.{row_bit}
use Rattle.hibits.proofs.RowLemmas.{past_row}
use Rattle.hibits.proofs.PageLemmas.{page_bit, page_len}
use Rattle.hibits.proofs.lowest.covers_lowest.Goals as goal

pub returns-then-not-covers_row : goal.returns-then-not-covers_row
returns-then-not-covers_row c = (
  λ e. cc,
  λ all.
      c.if-not-covers_row.ensures.1 (λ i e.
      elim (cases_lt i 4096) [
        | inl lt ↦
            page_bit c.args.outer.now.items c.page.result.now c.loop-page.page c.page.ensures.items i lt
            ∙ all (4096 * c.loop-page.page + i) (sym (page_bit c.args.inner.now.items c.page-in-loop-page.result.now c.loop-page.page c.page-in-loop-page.ensures.items i lt) ∙ e)
        | inr ge ↦ absurd (true≢false (sym e ∙ past_row c.page-in-loop-page.result.now i (let n = page_len _ _ c.page-in-loop-page.ensures.len in omega arith)))
      ]),
)

pub loop-page-preserved : goal.loop-page-preserved
loop-page-preserved c i lt e =
    elim (cases_lt i (4096 * c.loop-page.page)) [
      | inl before ↦ c.loop-page.invariant i before e
      | inr here ↦
          let at : 4096 * c.loop-page.page + (i - 4096 * c.loop-page.page) ≡ i = omega arith in
          let small : i - 4096 * c.loop-page.page < 4096 = omega arith in
          let inner = page_bit c.args.inner.now.items c.page-in-loop-page.result.now c.loop-page.page c.page-in-loop-page.ensures.items (i - 4096 * c.loop-page.page) small in
          let outer = page_bit c.args.outer.now.items c.page.result.now c.loop-page.page c.page.ensures.items (i - 4096 * c.loop-page.page) small in
          sym (outer ∙ ap (row_bit c.args.outer.now.items) at)
          ∙ c.if-not-covers_row.ensures.0 refl (i - 4096 * c.loop-page.page) (inner ∙ ap (row_bit c.args.inner.now.items) at ∙ e)
    ]
