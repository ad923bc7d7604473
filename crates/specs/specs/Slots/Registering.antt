-- A slot that takes a storage that was made elsewhere.
use Rattle.std.specs.Prelude.{◌≡◌, MatchOption, is_some}
use Rattle.storages.specs.Meaning.{Meaning}
use Rattle.specs.specs.Slots.Maps.{no_value}
use Rattle.specs.specs.Slots.Column.{Column}
use Rattle.specs.specs.Slots.Table.{Table, Becomes}

-- the slot of a storage without components: it has the storage's channel
abbrev pub column_with : {T V : Type 0} → Meaning T → Column V
column_with m = record { values = no_value; channel = m.channel; inner = is_some m.inner_room }

-- a slot that was not registered becomes this one, and a registered one stays
abbrev pub RegistersAs : {K V : Type 0} → Table K V → K → Column V → Table K V → Type 0
RegistersAs old slot column new = MatchOption (old slot) (Becomes old slot column new) (λ _. new ≡ old)
