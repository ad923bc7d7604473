-- What calls make of a storage that has no slice.
use Rattle.std.proofs.Common.{ℕ, List, [], refl}
use Rattle.std.specs.Prelude.{Result}
use Rattle.std.specs.Ordering.{nat_cmp}
use Rattle.std.specs.FinSet as set
use Rattle.storages.specs.declared.event.ComponentEvent.{ComponentEvent}
use Rattle.storages.specs.declared.event.ComponentEvent.TheVariants.{Inserted, Modified, Removed}
use Rattle.storages.specs.Meaning.{Meaning, Touches, Puts, Frees, Keeps, Empties, Masks, SamePresence, Writes, OrderAfter}
use Rattle.storages.specs.Unordered.{unordered}

module _ {T : Type 0} (m m' : Meaning T) where
  order_after : (e : ComponentEvent) → OrderAfter e [] []
  order_after (Inserted i) = tt
  order_after (Modified i) = refl
  order_after (Removed i) = tt

  pub touches_unordered : (id : ℕ) (e : ComponentEvent) → Touches m m' id e → Touches (unordered m) (unordered m') id e
  touches_unordered id e h = record { others = h.others; free = h.free; extent = h.extent; order = order_after e; channel = h.channel; needs_room = h.needs_room; room = h.room; needs_inner = h.needs_inner; inner_room = h.inner_room }

  pub puts_unordered : (id : ℕ) (x : T) (e : ComponentEvent) → Puts m m' id x e → Puts (unordered m) (unordered m') id x e
  puts_unordered id x e h = record { touches = touches_unordered id e h.touches; put = h.put }

  pub frees_unordered : (id : ℕ) → Frees m m' id → Frees (unordered m) (unordered m') id
  frees_unordered id h = record { touches = touches_unordered id (Removed id) h.touches; freed = h.freed }

  pub keeps_unordered : Keeps m m' → Keeps (unordered m) (unordered m')
  keeps_unordered h = record { at = h.at; free = h.free; extent = h.extent; order = refl; channel = h.channel; needs_room = h.needs_room; room = h.room; needs_inner = h.needs_inner; inner_room = h.inner_room }

  pub empties_unordered : (ids : List ℕ) → Empties m m' ids → Empties (unordered m) (unordered m') ids
  empties_unordered ids h = record { freed = h.freed; extent = h.extent; channel = h.channel; needs_room = h.needs_room; room = h.room; needs_inner = h.needs_inner; inner_room = h.inner_room }

  pub presence_unordered : SamePresence m m' → SamePresence (unordered m) (unordered m')
  presence_unordered h = record { present = h.present; free = h.free }

  pub writes_unordered : {B E : Type 0} (r : Result B E) (id : ℕ) (x : T) → Writes r m m' id x → Writes r (unordered m) (unordered m') id x
  writes_unordered r id x h = record { presence = presence_unordered h.presence; puts = λ k. puts_unordered id x (Modified id) (h.puts k) }

pub masks_unordered : {T : Type 0} (s : set.FinSet nat_cmp) (m : Meaning T) → Masks s (unordered m) → Masks s m
masks_unordered s m h = record { present = h.present; absent = h.absent }
