use Rattle.std.proofs.Common.{ℕ, ap, ◌∙◌, arith, max, flat_map, Option}
use Rattle.std.specs.Prelude.{IfOk}
use Rattle.rayon.specs.Lists.{chunks_of, chunks_size, chunks_slice, min_len_base}
use Rattle.rayon.proofs.ToStd.{slice-AllZip}
use Rattle.hibits.specs.Words.{indices_of}
use Rattle.joins_parallel.specs.Cutting.{Asked}
use Rattle.joins_parallel.proofs.Asking.{chunks_asked, chunks_all}
use Rattle.joins_parallel.proofs.pieces.ask_words.Goals as goal

pub collect-requires-clause-ready : goal.collect-requires-clause-ready
collect-requires-clause-ready g c κs within =
    let called = chunks_all indices_of (λ i. goal.F-pre g c.args.f.now i) (max c.piece_len.result 1) c.args.list.now (omega arith) c.requires.called in
    rw (c.map.ensures.base, c.map.ensures.f, c.with_min_len.ensures.base, c.par_chunks.ensures.slice, c.par_chunks.ensures.size) (λ k d lt x e. (rw e (called k d lt), λ y p. tt))

pub returns : goal.returns
returns g c =
    let R : ℕ → Option g.row.X.Denot → Type 0 = λ i o. goal.F-post g c.args.f.now i o in
    let size = max (chunks_size c.par_chunks.result) 1 in
    let made = c.in_ok-collect.ensures in
    let got = rw c.in_ok-parts.was at made.2 in
    let chain = rw c.map.ensures.f at made.1 in
    let cut =
    chain.1 ∙ ap (λ it. chunks_of (max (chunks_size (min_len_base it)) 1) (chunks_slice (min_len_base it))) c.map.ensures.base
    ∙ ap (λ it. chunks_of (max (chunks_size it) 1) (chunks_slice it)) c.with_min_len.ensures.base
    ∙ ap (chunks_of size) c.par_chunks.ensures.slice
    in
    let zipped = slice-AllZip chain.0 (chunks_of size c.args.list.now) cut (λ part r. IfOk r (λ v. Asked R (flat_map indices_of part) v.items)) made.0 chain.2 in
    chunks_asked R indices_of (λ w. w.items) size c.args.list.now made.0 got.0 c.in_ok-parts.parts.items (omega arith) got.1 got.2 zipped
