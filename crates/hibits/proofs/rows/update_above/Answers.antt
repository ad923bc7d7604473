use Rattle.std.proofs.Common.{◌≡◌, ◌/◌, ◌^◌, ◌∙◌, ap, arith, not, ◌==◌, get_or}
use Rattle.hibits.proofs.RowLemmas.{put_top, one_word}
use Rattle.hibits.proofs.rows.update_above.Goals as goal

pub returns-clause-top : goal.returns-clause-top
returns-clause-top c =
    let put = put_top c.args.top.now (c.args.id / 64 ^ 4) c.put_bit-some-3.result c.requires.top in
    let place : c.args.id / 262144 / 64 ≡ c.args.id / 64 ^ 4 = omega arith in
    let some = c.put_bit-some-3.ensures.some ∙ ap (λ k. not (get_or c.put_bit-some-3.new.words.items k 0 == 0)) place in
    rw (c.with_bit.ensures, some) (rw some at put)

pub returns-clause-words4 : goal.returns-clause-words4
returns-clause-words4 c = one_word _ c.with_bit.type_inv
