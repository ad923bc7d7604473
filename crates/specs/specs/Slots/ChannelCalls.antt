-- The calls on the channel of a slot's events, as one.
use Rattle.std.specs.Prelude.{◌≡◌, Option, Some, IsSome, true}
use Rattle.storages.specs.Channel.{Channel}
use Rattle.storages.specs.Tracking.{with_reader, after_read, without_reader, switched}
use Rattle.storages.specs.Unread.{unread_of}
use Rattle.specs.specs.Slots.Column.{Column}
use Rattle.specs.specs.Slots.Table.{Table}
use Rattle.specs.specs.Slots.Readers.{Rechannels, RegisterReaderIsRefused, ReaderIsRefused, SwitchIsRefused}
use Rattle.specs.specs.declared.command.Refusal.{Refusal}
use Rattle.specs.specs.declared.command.channel_call.ChannelCall.{ChannelCall}
use Rattle.specs.specs.declared.command.channel_call.ChannelCall.TheVariants.{Register, Read, End, Emit}
use Rattle.specs.specs.declared.command.channel_call.ChannelReply.{ChannelReply}
use Rattle.specs.specs.declared.command.channel_call.ChannelReply.TheVariants.{Reader, Events, Done}

-- what the reply says of the channel before
abbrev pub Says : ChannelCall → ChannelReply → Channel → Type 0
Says Register (Reader n) c = n ≡ c.registered
Says (Read reader) (Events es) c = unread_of reader.now c.readers ≡ Some es.items
Says (End n) Done c = IsSome (unread_of n c.readers)
Says (Emit on) Done c = c.tracked ≡ true
Says call reply c = ⊥

-- the channel after the call
abbrev pub called : ChannelCall → Channel → Channel
called Register = with_reader
called (Read reader) = after_read reader.now
called (End n) = without_reader n
called (Emit on) = switched on

-- only the channel of one slot changed, as the call changes it
abbrev pub Calls : {K V : Type 0} → Table K V → K → ChannelCall → ChannelReply → Table K V → Type 0
Calls old slot call reply new = Rechannels old slot (Says call reply) (called call) new

-- why a call is refused
abbrev pub CallIsRefused : {V : Type 0} → ChannelCall → Option (Column V) → Refusal → Type 0
CallIsRefused Register = RegisterReaderIsRefused
CallIsRefused (Read reader) = ReaderIsRefused reader.now
CallIsRefused (End n) = ReaderIsRefused n
CallIsRefused (Emit on) = SwitchIsRefused
