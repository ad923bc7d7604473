-- The removal of the components of a list of entities.
use Rattle.std.specs.Prelude.{◌≡◌, ◌+◌, ℕ, Bool, true, false, refl, List, [], ◌∷◌, Option, None, cond, not, ◌&&◌, ◌==◌, is_some, length}
use Rattle.std.specs.FinMap as map
use Rattle.entities.specs.declared.entity.Entity.{Entity}
use Rattle.entities.specs.Population.{index_of}
use Rattle.entities.specs.Deaths.{has_index}
use Rattle.storages.specs.Channel.{emitted_removals}
use Rattle.storages.specs.Meaning.{HasRoom}
use Rattle.storages.specs.Slot.{Slot}

-- a set without one index
abbrev pub without_one : (ℕ → Bool) → ℕ → ℕ → Bool
without_one has i q = has q && not (i == q)

-- the indices of a list of entities that are in a set, each where it is first mentioned
abbrev pub lost : List Entity → (ℕ → Bool) → List ℕ
lost [] has = []
lost (e ∷ es) has = cond (has (index_of e)) (index_of e ∷ lost es (without_one has (index_of e))) (lost es has)

-- the indices of a list of entities at which a slot has a component, each where it is first mentioned
abbrev pub lost_of : {T : Type 0} → List Entity → Slot T → List ℕ
lost_of es s = lost es (λ q. map.contains_key s.map q)

-- no index of the entities has a component any more, the others keep theirs, and the removals were emitted in the list's order, which took room
-- for as many events. Where there was nothing to take out, a slice without gaps has its order still
pub record Loses {T : Type 0} (s s' : Slot T) (es : List Entity) : Type 0 where
  pub get : (q : ℕ) → map.get s'.map q ≡ cond (has_index es q) None (map.get s.map q)
  pub extent : s'.extent ≡ s.extent
  pub order : lost_of es s ≡ [] → s'.order ≡ s.order
  pub channel : s'.channel ≡ emitted_removals (lost_of es s) s.channel
  pub needs_room : is_some s'.room ≡ is_some s.room
  pub room : (n : ℕ) → HasRoom s.room (length (lost_of es s) + n) → HasRoom s'.room n
  pub needs_inner : is_some s'.inner_room ≡ is_some s.inner_room
  pub inner_room : (n : ℕ) → HasRoom s.inner_room (length (lost_of es s) + n) → HasRoom s'.inner_room n

-- whether there is a value, unless it was lost
pub unless_lost : {T : Type 0} (gone : Bool) (o : Option T) → is_some (cond gone None o) ≡ cond gone false (is_some o)
unless_lost true o = refl
unless_lost false o = refl
