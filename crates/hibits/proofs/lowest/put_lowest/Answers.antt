use Rattle.hibits.proofs.RowLemmas.{put_any}
use Rattle.hibits.proofs.lowest.put_lowest.Goals as goal

pub returns-clause-put : goal.returns-clause-put
returns-clause-put c =
    rw (c.set.ensures.items, c.with_bit-word.ensures, c.get_present.ensures) (put_any c.args.words.now.items c.args.i c.args.value c.requires.within)
