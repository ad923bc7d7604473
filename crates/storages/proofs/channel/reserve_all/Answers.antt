use Rattle.std.proofs.Common.{◌≡◌, ◌<◌, ◌≤◌, ◌+◌, length, sym, arith, rules, subst, slice_index_or, slice_set}
use Rattle.storages.specs.declared.channel.Reader.{Reader}
use Rattle.storages.specs.Readers.{shown, room_of}
use Rattle.storages.proofs.Walked.{Walked, Reserves, Grows, none_walked, walked_as, walked_at, room_at, walks_on, grows, grown_shown, grown_room, reserved}
use Rattle.storages.proofs.channel.reserve_all.Given.{Over}
use Rattle.storages.proofs.channel.reserve_all.Goals as goal

pub loop-reader-init : goal.loop-reader-init
loop-reader-init g c = none_walked {E = g.row.E.Denot} (Reserves c.args.n) c.args.readers.now

-- the readers as a refusal leaves them: the one that was refused may have more room too
left : (g : Over) (c : goal.After-from_residual g) →
    Walked {E = g.row.E.Denot} Grows (c.loop-reader.reader-index + 1) c.args.readers.now
    (slice_set c.loop-reader.readers c.loop-reader.reader-index (record { number = (slice_index_or c.loop-reader.readers c.loop-reader.reader-index c.reader-item.result).number; unread = c.reserve.new.self }))
left g c =
    let i = c.loop-reader.reader-index in
    let xs = c.args.readers.now in
    let ys = c.loop-reader.readers in
    let d = c.reader-item.result in
    let old = slice_index_or ys i d in
    let r : Reader g.row.E.Denot = record { number = old.number; unread = c.reserve.new.self } in
    let lt : i < length ys = omega arith in
    let same : shown {E = g.row.E.Denot} r ≡ shown {E = g.row.E.Denot} old = search rules in
    let more : room_of {E = g.row.E.Denot} old ≤ room_of {E = g.row.E.Denot} r = search (rules, arith) in
    walks_on Grows i xs ys d r lt (walked_as (Reserves c.args.n) Grows (grows c.args.n) i xs ys c.loop-reader.invariant) (same, more)

pub returns-in_err-reserve-clause-shown : goal.returns-in_err-reserve-clause-shown
returns-in_err-reserve-clause-shown g c = grown_shown _ _ _ (left g c)

pub returns-in_err-reserve-clause-room : goal.returns-in_err-reserve-clause-room
returns-in_err-reserve-clause-room g c = grown_room _ _ _ (left g c)

pub returns-in_err-reserve-clause-succeeds : goal.returns-in_err-reserve-clause-succeeds
returns-in_err-reserve-clause-succeeds g c = λ room.
    let i = c.loop-reader.reader-index in
    let d = c.reader-item.result in
    let old = slice_index_or c.loop-reader.readers i d in
    let lt : i < length c.args.readers.now = omega arith in
    let there : c.args.n ≤ room_of {E = g.row.E.Denot} old = subst (λ (r : Reader g.row.E.Denot). c.args.n ≤ room_of r) (sym (walked_at (Reserves c.args.n) i c.args.readers.now c.loop-reader.readers d c.loop-reader.invariant)) (room_at c.args.n i c.args.readers.now d lt room) in
    search (rules, arith)

pub loop-reader-preserved : goal.loop-reader-preserved
loop-reader-preserved g c =
    let i = c.loop-reader.reader-index in
    let xs = c.args.readers.now in
    let ys = c.loop-reader.readers in
    let d = c.reader-item.result in
    let old = slice_index_or ys i d in
    let r : Reader g.row.E.Denot = record { number = old.number; unread = c.reserve.new.self } in
    let lt : i < length ys = omega arith in
    let same : shown {E = g.row.E.Denot} r ≡ shown {E = g.row.E.Denot} old = search rules in
    let more : room_of {E = g.row.E.Denot} old ≤ room_of {E = g.row.E.Denot} r = search (rules, arith) in
    let room : c.args.n ≤ room_of {E = g.row.E.Denot} r = search (rules, arith) in
    walks_on (Reserves c.args.n) i xs ys d r lt c.loop-reader.invariant ((same, more), room)

pub returns-clause-shown : goal.returns-clause-shown
returns-clause-shown g c = grown_shown c.loop-reader.reader-index c.args.readers.now c.loop-reader.readers (walked_as (Reserves c.args.n) Grows (grows c.args.n) c.loop-reader.reader-index c.args.readers.now c.loop-reader.readers c.loop-reader.invariant)

pub returns-clause-room : goal.returns-clause-room
returns-clause-room g c = grown_room c.loop-reader.reader-index c.args.readers.now c.loop-reader.readers (walked_as (Reserves c.args.n) Grows (grows c.args.n) c.loop-reader.reader-index c.args.readers.now c.loop-reader.readers c.loop-reader.invariant)

pub returns-clause-ok : goal.returns-clause-ok
returns-clause-ok g c =
    let end : length c.loop-reader.readers ≤ c.loop-reader.reader-index = omega arith in
    reserved c.args.n c.loop-reader.reader-index c.args.readers.now c.loop-reader.readers end c.loop-reader.invariant
