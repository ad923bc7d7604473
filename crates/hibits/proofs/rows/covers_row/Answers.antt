use Rattle.std.proofs.Common.{arith, inl, inr, ◌*◌}
use Rattle.std.proofs.lemmas.Bool.{cases_lt}
use Rattle.hibits.proofs.CountLemmas.{row_within, row_outside}
use Rattle.hibits.proofs.rows.covers_row.Goals as goal

pub loop-k-preserved : goal.loop-k-preserved
loop-k-preserved c i lt e =
    let none = rw c.word_of.ensures at c.if-word-word_of-ne0.false in
    elim (cases_lt i (64 * c.loop-k.k)) [
      | inl before ↦ c.loop-k.invariant i before e
      | inr here ↦ row_within c.args.inner.now c.args.outer.now c.loop-k.k (c.type_inv.inner c.loop-k.k).fits (c.type_inv.outer c.loop-k.k).fits none i (omega arith) e
    ]

pub returns-then-word-word_of-ne0 : goal.returns-then-word-word_of-ne0
returns-then-word-word_of-ne0 c =
    let some = rw c.word_of.ensures at c.if-word-word_of-ne0.true in
    (λ e. cc, λ all. absurd (row_outside c.args.inner.now c.args.outer.now c.loop-k.k (c.type_inv.inner c.loop-k.k).fits (c.type_inv.outer c.loop-k.k).fits some all))
