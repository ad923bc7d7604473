use Rattle.std.proofs.Common.{◌≡◌, ◌<◌, ◌≤◌, ◌+◌, ◌∷◌, ◌++◌, ℕ, [], length, sym, arith, rules, subst, slice_index_or}
use Rattle.storages.specs.declared.channel.Reader.{Reader}
use Rattle.storages.specs.Readers.{shown, room_of}
use Rattle.storages.proofs.Walked.{Hears, none_walked, walked_at, walks_on, room_at, heard_shown, heard_room}
use Rattle.storages.proofs.channel.write_all.Goals as goal

pub loop-reader-init : goal.loop-reader-init
loop-reader-init g c = none_walked {E = g.row.E.Denot} (Hears c.args.event) c.args.readers.now

pub unreachable-requires : goal.unreachable-requires
unreachable-requires g c =
    let i = c.loop-reader.reader-index in
    let d = c.reader-item.result in
    let old = slice_index_or c.loop-reader.readers i d in
    let lt : i < length c.args.readers.now = omega arith in
    let there : 1 ≤ room_of {E = g.row.E.Denot} old = subst (λ (r : Reader g.row.E.Denot). 1 ≤ room_of r) (sym (walked_at (Hears c.args.event) i c.args.readers.now c.loop-reader.readers d c.loop-reader.invariant)) (room_at 1 i c.args.readers.now d lt c.requires) in
    search (rules, arith)

pub loop-reader-preserved : goal.loop-reader-preserved
loop-reader-preserved g c =
    let i = c.loop-reader.reader-index in
    let xs = c.args.readers.now in
    let ys = c.loop-reader.readers in
    let d = c.reader-item.result in
    let old = slice_index_or ys i d in
    let r : Reader g.row.E.Denot = record { number = old.number; unread = c.push.new.self } in
    let lt : i < length ys = omega arith in
    let same : shown {E = g.row.E.Denot} r ≡ (old.number, old.unread.items ++ c.args.event ∷ []) = search rules in
    let room : (k : ℕ) → k + 1 ≤ room_of {E = g.row.E.Denot} old → k ≤ room_of {E = g.row.E.Denot} r = search (rules, arith) in
    walks_on (Hears c.args.event) i xs ys d r lt c.loop-reader.invariant (same, room)

pub returns-clause-shown : goal.returns-clause-shown
returns-clause-shown g c =
    let end : length c.loop-reader.readers ≤ c.loop-reader.reader-index = omega arith in
    heard_shown c.args.event c.loop-reader.reader-index c.args.readers.now c.loop-reader.readers end c.loop-reader.invariant

pub returns-clause-room : goal.returns-clause-room
returns-clause-room g c =
    let end : length c.loop-reader.readers ≤ c.loop-reader.reader-index = omega arith in
    heard_room c.args.event c.loop-reader.reader-index c.args.readers.now c.loop-reader.readers end c.loop-reader.invariant
