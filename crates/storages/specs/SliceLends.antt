-- What a storage ends as, where its components are lent as a slice to write to.
use Rattle.std.specs.Prelude.{◌≡◌, ℕ, Option, List, length, IsTrue, is_some}
use Rattle.std.proofs.Common.{ap, sym, ◌∙◌, ◌++◌, take, drop}
use Rattle.std.proofs.Math.Seq.{take-append_seam}
use Rattle.std.specs.Borrow.{RattleType, MutBor, Fml, Lends, Array}
use Rattle.std.specs.FinMap as map
use Rattle.std.specs.List.{refill}
use Rattle.storages.specs.Meaning.{Meaning, SamePresence}
use Rattle.storages.specs.Slot.{Slot, map_of}

-- the slice xs after ws was left there, of which only as many count as there were
abbrev pub left_as : {T : Type 0} → List T → List T → List T
left_as xs ws = refill (length xs) xs ws

-- which is ws where that is as long
pub left_as-same : {T : Type 0} (xs ws : List T) → length ws ≡ length xs → left_as xs ws ≡ ws
left_as-same xs ws e = ap (λ n. take n (ws ++ drop (length ws) xs)) (sym e) ∙ take-append_seam ws (drop (length ws) xs)

-- `item_at` gives what a slice has at the place of an index, where the list has the index of each place of a slice without gaps
module _ {T : Type 0} (item_at : List ℕ → List T → ℕ → Option T) where
  -- each component has what the slice xs has at its index's place, and nothing else changed
  pub record Rewrites (m m' : Meaning T) (xs : List T) : Type 0 where
    pub presence : SamePresence m m'
    pub extent : m'.extent ≡ m.extent
    pub order : m'.order ≡ m.order
    pub channel : m'.channel ≡ m.channel
    pub room : m'.room ≡ m.room
    pub inner_room : m'.inner_room ≡ m.inner_room
    pub at : (q : ℕ) → IsTrue (is_some (m.at q)) → m'.at q ≡ item_at m.order xs q

  -- the slot whose components are what xs has at their indices' places
  abbrev pub with_slice : Slot T → List T → Slot T
  with_slice s xs = record s { map = map_of (map.keys s.map) (item_at s.order xs) }

-- once the borrow r ends, the storage has what was left in the slice
abbrev pub lends_items : (R T : RattleType) (with_items : R.Denot → List T.Denot → R.Denot) → MutBor R.Denot → MutBor (List T.Denot) → Fml
lends_items R T with_items s r = Lends R (Array T 0) s r (with_items s.now)
