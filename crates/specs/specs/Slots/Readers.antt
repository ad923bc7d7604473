-- The readers of a slot's events.
use Rattle.std.specs.Prelude.{◌≡◌, ℕ, Bool, true, false, List, Option, Some, None, IsSome}
use Rattle.storages.specs.Channel.{Channel}
use Rattle.storages.specs.Tracking.{with_reader, after_read, without_reader, switched}
use Rattle.storages.specs.Unread.{unread_of}
use Rattle.storages.specs.declared.event.ComponentEvent.{ComponentEvent}
use Rattle.specs.specs.Slots.Column.{Column}
use Rattle.specs.specs.Slots.Table.{Table, Becomes}
use Rattle.specs.specs.declared.command.Refusal.{Refusal}
use Rattle.specs.specs.declared.command.Refusal.TheVariants.{WrongGeneration as Wrong, Unregistered, IndexLimit, OutOfMemory, Untracked, UnknownReader}

-- the slot with another channel
abbrev pub with_channel : {V : Type 0} → Column V → Channel → Column V
with_channel c channel = record { values = c.values; channel = channel; inner = c.inner }

-- only the channel of one slot changed, which is tracked, and of which this is so
pub record Rechannels {K V : Type 0} (old : Table K V) (slot : K) (says : Channel → Type 0) (change : Channel → Channel) (new : Table K V) : Type 0 where
  pub column : Column V
  pub registered : old slot ≡ Some column
  pub tracked : column.channel.tracked ≡ true
  pub said : says column.channel
  pub becomes : Becomes old slot (with_channel column (change column.channel)) new

-- a new reader, whose number is how many were registered before it
abbrev pub RegistersReader : {K V : Type 0} → Table K V → K → ℕ → Table K V → Type 0
RegistersReader old slot n new = Rechannels old slot (λ c. n ≡ c.registered) with_reader new

-- a reader read all that it had not read
abbrev pub ReadsEvents : {K V : Type 0} → Table K V → K → ℕ → List ComponentEvent → Table K V → Type 0
ReadsEvents old slot n es new = Rechannels old slot (λ c. unread_of n c.readers ≡ Some es) (after_read n) new

-- a reader is registered no more
abbrev pub DropsReader : {K V : Type 0} → Table K V → K → ℕ → Table K V → Type 0
DropsReader old slot n new = Rechannels old slot (λ c. IsSome (unread_of n c.readers)) (without_reader n) new

-- events are emitted, or not, from now on
abbrev pub Switches : {K V : Type 0} → Table K V → K → Bool → Table K V → Type 0
Switches old slot on new = Rechannels old slot (λ c. c.tracked ≡ true) (switched on) new

-- the slot has a channel of which this is so
pub record HasChannel {V : Type 0} (slot : Option (Column V)) (says : Channel → Type 0) : Type 0 where
  pub column : Column V
  pub registered : slot ≡ Some column
  pub said : says column.channel

-- why a call on a slot's channel is refused, where `memory` and `unknown` tell when it is for these two
abbrev pub ChannelIsRefused : {V : Type 0} → (Channel → Type 0) → (Channel → Type 0) → Option (Column V) → Refusal → Type 0
ChannelIsRefused memory unknown slot (Wrong w) = ⊥
ChannelIsRefused memory unknown slot Unregistered = slot ≡ None
ChannelIsRefused memory unknown slot IndexLimit = ⊥
ChannelIsRefused memory unknown slot OutOfMemory = HasChannel slot memory
ChannelIsRefused memory unknown slot Untracked = HasChannel slot (λ c. c.tracked ≡ false)
ChannelIsRefused memory unknown slot UnknownReader = HasChannel slot unknown

abbrev pub RegisterReaderIsRefused : {V : Type 0} → Option (Column V) → Refusal → Type 0
RegisterReaderIsRefused = ChannelIsRefused (λ c. c.tracked ≡ true) (λ c. ⊥)

abbrev pub ReaderIsRefused : {V : Type 0} → ℕ → Option (Column V) → Refusal → Type 0
ReaderIsRefused n = ChannelIsRefused (λ c. ⊥) (λ c. unread_of n c.readers ≡ None)

abbrev pub SwitchIsRefused : {V : Type 0} → Option (Column V) → Refusal → Type 0
SwitchIsRefused = ChannelIsRefused (λ c. ⊥) (λ c. ⊥)
