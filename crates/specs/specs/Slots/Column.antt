-- A slot that is registered: its values, and the channel that tells of each change.
use Rattle.std.proofs.Common.{ap, ◌∙◌}
use Rattle.std.specs.Prelude.{◌≡◌, ◌||◌, Bool, false, ℕ, List, [], Option, Some, None, cond}
use Rattle.hibits.specs.Left.{left}
use Rattle.entities.specs.declared.entity.Entity.{Entity}
use Rattle.storages.specs.Channel.{Channel, emitted, emitted_removals, is_heard}
use Rattle.storages.specs.Removals.{lost}
use Rattle.storages.specs.declared.event.ComponentEvent.TheVariants.{Inserted, Modified, Removed}
use Rattle.specs.specs.Slots.Maps.{Map, no_value, has_value, put, without_one, without}

-- `inner` tells whether a storage within the slot's own wants memory for events of its own
pub record Column (V : Type 0) : Type 0 where
  pub values : Map V
  pub channel : Channel
  pub inner : Bool

module _ {V : Type 0} where
  -- whether an event may want memory: somebody hears of it
  abbrev pub wants_memory : Column V → Bool
  wants_memory c = c.inner || is_heard c.channel

  -- a value is put at an index, which is told
  abbrev pub with_value : Column V → ℕ → V → Column V
  with_value c i v = record { values = put c.values i v; channel = emitted (cond (has_value c.values i) (Modified i) (Inserted i)) c.channel; inner = c.inner }

  -- the value of an index is taken out, which is told if there was one
  abbrev pub without_value : Column V → ℕ → Column V
  without_value c i = record { values = without_one c.values i; channel = cond (has_value c.values i) (emitted (Removed i) c.channel) c.channel; inner = c.inner }

  -- the values at the indices of a list of entities are taken out, and each is told in the list's order
  abbrev pub without_values : List Entity → Column V → Column V
  without_values es c = record { values = without es c.values; channel = emitted_removals (lost es (has_value c.values)) c.channel; inner = c.inner }

  -- every value is taken out, and each is told, ascending
  abbrev pub emptied : Column V → Column V
  emptied c = record { values = no_value; channel = emitted_removals (left (has_value c.values) 0) c.channel; inner = c.inner }

  -- a slot as it begins: empty, with no reader, and a tracked one emits its events
  pub record IsFresh (c : Column V) : Type 0 where
    pub values : c.values ≡ no_value
    pub registered : c.channel.registered ≡ 0
    pub readers : c.channel.readers ≡ []
    pub emission : c.channel.emission ≡ c.channel.tracked
    pub inner : c.inner ≡ false

  -- no event of the slot wants memory
  abbrev pub WantsNone : Option (Column V) → Type 0
  WantsNone None = Unit {0}
  WantsNone (Some c) = wants_memory c ≡ false

-- columns of equal parts
module _ {V : Type 0} where
  abbrev the_column : Map V → Channel → Bool → Column V
  the_column v c b = record { values = v; channel = c; inner = b }

  pub column_is : {v v' : Map V} {c c' : Channel} {b b' : Bool} → v ≡ v' → c ≡ c' → b ≡ b' → the_column v c b ≡ the_column v' c' b'
  column_is {v} {v'} {c} {c'} {b} {b'} e f g = ap (λ x. the_column x c b) e ∙ ap (λ x. the_column v' x b) f ∙ ap (λ x. the_column v' c' x) g
