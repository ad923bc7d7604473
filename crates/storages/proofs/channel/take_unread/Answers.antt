use Rattle.std.proofs.Common.{◌≡◌, ◌<◌, ◌≤◌, ◌+◌, [], length, map, refl, sym, ap, ◌∙◌, arith, rules, subst, slice_index_or}
use Rattle.storages.specs.declared.channel.Reader.{Reader}
use Rattle.storages.specs.Readers.{shown}
use Rattle.storages.specs.Unread.{unread_of, emptied}
use Rattle.std.proofs.lemmas.List.{set-get_or}
use Rattle.storages.proofs.Walked.{Lacks, lacks_first, lacks_more, unread_there, unread_nowhere, emptied_there, emptied_nowhere}
use Rattle.storages.proofs.channel.take_unread.Goals as goal

pub loop-reader-init : goal.loop-reader-init
loop-reader-init g c = (lacks_first {E = g.row.E.Denot} c.args.number c.args.readers.now, refl)

pub returns-then-reader-number-clause-events : goal.returns-then-reader-number-clause-events
returns-then-reader-number-clause-events g c =
    let i = c.loop-reader.reader-index in
    let ys = c.loop-reader.readers in
    let d = c.reader-item.result in
    let lt : i < length ys = omega arith in
    rw c.replace.ensures.value (ap (λ rs. unread_of c.args.number (map (shown {E = g.row.E.Denot}) rs)) (sym c.loop-reader.invariant.1) ∙ unread_there {E = g.row.E.Denot} c.args.number i ys d lt c.loop-reader.invariant.0 c.if-reader-number.true)

pub returns-then-reader-number-clause-shown : goal.returns-then-reader-number-clause-shown
returns-then-reader-number-clause-shown g c =
    let i = c.loop-reader.reader-index in
    let ys = c.loop-reader.readers in
    let d = c.reader-item.result in
    let old = slice_index_or ys i d in
    let r : Reader g.row.E.Denot = record { number = old.number; unread = c.replace.new.dest } in
    let lt : i < length ys = omega arith in
    let same : shown {E = g.row.E.Denot} r ≡ (old.number, []) = search rules in
    emptied_there {E = g.row.E.Denot} c.args.number i ys d r lt c.loop-reader.invariant.0 c.if-reader-number.true same ∙ ap (λ rs. emptied c.args.number (map (shown {E = g.row.E.Denot}) rs)) c.loop-reader.invariant.1

pub loop-reader-preserved : goal.loop-reader-preserved
loop-reader-preserved g c =
    let i = c.loop-reader.reader-index in
    let ys = c.loop-reader.readers in
    let d = c.reader-item.result in
    let same = set-get_or ys i d in
    (subst (Lacks {E = g.row.E.Denot} c.args.number (i + 1)) (sym same) (lacks_more {E = g.row.E.Denot} c.args.number i ys d c.loop-reader.invariant.0 c.if-reader-number.false), same ∙ c.loop-reader.invariant.1)

pub returns-clause-events : goal.returns-clause-events
returns-clause-events g c =
    let end : length c.loop-reader.readers ≤ c.loop-reader.reader-index = omega arith in
    ap (λ rs. unread_of c.args.number (map (shown {E = g.row.E.Denot}) rs)) (sym c.loop-reader.invariant.1) ∙ unread_nowhere {E = g.row.E.Denot} c.args.number c.loop-reader.reader-index c.loop-reader.readers end c.loop-reader.invariant.0

pub returns-clause-shown : goal.returns-clause-shown
returns-clause-shown g c =
    let end : length c.loop-reader.readers ≤ c.loop-reader.reader-index = omega arith in
    emptied_nowhere {E = g.row.E.Denot} c.args.number c.loop-reader.reader-index c.loop-reader.readers end c.loop-reader.invariant.0 ∙ ap (λ rs. emptied c.args.number (map (shown {E = g.row.E.Denot}) rs)) c.loop-reader.invariant.1
