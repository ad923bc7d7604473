use Rattle.std.proofs.lemmas.List.{get_or_read}
use Rattle.hibits.proofs.RowLemmas.{put_any, are_words}
use Rattle.hibits.proofs.rows.put_bit.Goals as goal

pub returns-clause-put : goal.returns-clause-put
returns-clause-put c =
    let read = get_or_read _ _ _ c.requires c.index.ensures 0 in
    rw (c.with_bit-word.ensures, read) (put_any c.args.words.now.items c.args.i c.args.value c.requires)

pub returns-clause-words : goal.returns-clause-words
returns-clause-words c = are_words _ c.type_inv.words
