use Rattle.std.proofs.Common.{◌++◌, flat_map, take, subst, sym}
use Rattle.std.specs.List.{All}
use Rattle.hibits.specs.Words.{indices_of}
use Rattle.joins_parallel.specs.Cutting.{Asked}
use Rattle.joins_parallel.proofs.Asking.{asked_then, item_all, flat_more}
use Rattle.joins_parallel.proofs.pieces.piece_of_words.Goals as goal

pub ask_word-requires : goal.ask_word-requires
ask_word-requires g c =
    record {
      called = subst (λ w. All (λ i. goal.F-pre g c.args.f.now i) (indices_of w)) (sym c.word-item.is) (item_all indices_of (λ i. goal.F-pre g c.args.f.now i) c.args.part.now c.requires.called c.loop-word.word-index c.word-item.result c.loop-word-test.true);
    }

pub loop-word-preserved : goal.loop-word-preserved
loop-word-preserved g c =
    let here = subst (λ w. Asked (λ i o. goal.F-post g c.args.f.now i o) (flat_map indices_of (take c.loop-word.word-index c.args.part.now) ++ indices_of w) c.ask_word.new.made.items) c.word-item.is
    (asked_then (λ i o. goal.F-post g c.args.f.now i o) (flat_map indices_of (take c.loop-word.word-index c.args.part.now)) _ _ _ c.loop-word.invariant c.in_ok-ask_word.ensures)
    in
    rw (flat_more indices_of c.args.part.now c.loop-word.word-index c.word-item.result c.loop-word-test.true) here
