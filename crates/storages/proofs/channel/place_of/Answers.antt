use Rattle.std.proofs.Common.{◌≡◌, ◌≤◌, length, sym, ap, ◌∙◌, arith, slice_index_or, is_some}
use Rattle.storages.specs.declared.channel.Reader.{Reader}
use Rattle.storages.proofs.Walked.{lacks_first, lacks_more, unread_there, unread_nowhere, dropped_there, removed_room}
use Rattle.storages.proofs.channel.place_of.Given.{Over}
use Rattle.storages.proofs.channel.place_of.Goals as goal

pub loop-place-init : goal.loop-place-init
loop-place-init g c = lacks_first {E = g.row.E.Denot} c.args.number c.args.readers.now

-- the reader at the place has the number
found : (g : Over) (c : goal.Then-reader-number g) → (slice_index_or c.args.readers.now c.loop-place.place c.index-readers-place.result).number ≡ c.args.number
found g c = ap (λ (r : Reader g.row.E.Denot). r.number) (sym c.index-readers-place.is) ∙ c.if-reader-number.true

pub returns-then-reader-number-clause-found : goal.returns-then-reader-number-clause-found
returns-then-reader-number-clause-found g c = ap is_some (unread_there {E = g.row.E.Denot} c.args.number c.loop-place.place c.args.readers.now c.index-readers-place.result c.loop-place-test.true c.loop-place.invariant (found g c))

pub returns-then-reader-number-clause-room : goal.returns-then-reader-number-clause-room
returns-then-reader-number-clause-room g c = removed_room {E = g.row.E.Denot} c.loop-place.place c.args.readers.now c.loop-place-test.true

pub returns-then-reader-number-clause-dropped : goal.returns-then-reader-number-clause-dropped
returns-then-reader-number-clause-dropped g c = dropped_there {E = g.row.E.Denot} c.args.number c.loop-place.place c.args.readers.now c.index-readers-place.result c.loop-place-test.true c.loop-place.invariant (found g c)

pub loop-place-preserved : goal.loop-place-preserved
loop-place-preserved g c =
    let d = c.index-readers-place.result in
    lacks_more {E = g.row.E.Denot} c.args.number c.loop-place.place c.args.readers.now d c.loop-place.invariant (λ same. c.if-reader-number.false (ap (λ (r : Reader g.row.E.Denot). r.number) c.index-readers-place.is ∙ same))

pub returns-clause-found : goal.returns-clause-found
returns-clause-found g c =
    let end : length c.args.readers.now ≤ c.loop-place.place = omega arith in
    unread_nowhere {E = g.row.E.Denot} c.args.number c.loop-place.place c.args.readers.now end c.loop-place.invariant
