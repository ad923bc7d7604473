use Rattle.std.proofs.Common.{refl, length}
use Rattle.std.proofs.lemmas.Bool.{false≢true}
use Rattle.storages.specs.Slot.{indices_of}
use Rattle.specs.specs.Typed.Field.{column_of}
use Rattle.specs.proofs.Values.{cleared, wants, no_room, none_told}
use Rattle.specs.proofs.typed.field.clear_in.Goals as goal

pub returns-in-Ok-clause-ok : goal.returns-in-Ok-clause-ok
returns-in-Ok-clause-ok g c = cleared c.args.storage.now c.clear.new.self c.in-Ok.ensures.ok.map c.in-Ok.ensures.ok.channel c.in-Ok.ensures.ok.needs_inner

pub returns-in-Err-clause-refused : goal.returns-in-Err-clause-refused
returns-in-Err-clause-refused g c =
    let s = c.args.storage.now in
    record {
      column = column_of s;
      registered = refl;
      present = λ none. absurd (false≢true (c.in-Err.ensures.succeeds (no_room s.room (length (indices_of s)) (none_told s none))));
      wanted = wants s c.needs_room-heard.result (length (indices_of s)) c.needs_room-heard.ensures.told c.needs_room-heard.ensures.wanted (λ room. absurd (false≢true (c.in-Err.ensures.succeeds room)));
    }
