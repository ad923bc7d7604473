-- What a cursor that takes components out means.
use Rattle.std.specs.Prelude.{ℕ, ◌&&◌, Bool, Option, List, []}
use Rattle.std.specs.Option.{option_and_then}
use Rattle.std.specs.FinMap as map
use Rattle.std.specs.Borrow.{RattleType, MutBor, GName, Fml, follows}
use mir.Syntax.{named}
use Rattle.hibits.specs.Left.{left}
use Rattle.hibits.specs.WalkOf.{position}
use Rattle.hibits.specs.declared.layers.Layers as layers
use Rattle.storages.specs.declared.unprotected.Kind as kind
use Rattle.storages.specs.declared.write_storage.WriteStorage.{WriteStorage}
use Rattle.storages.specs.contracts.write_storage.WriteStorage as view
use Rattle.storages.specs.contracts.masked.MaskedStorage as masked
use Rattle.storages.specs.WriteView.{with_slot}
use Rattle.storages.specs.Slot.{Slot}
use Rattle.joins.specs.Beside.{Gives}
use Rattle.joins.specs.declared.join.Join as join
use Rattle.joins.specs.declared.cursors.drain.Drain.{Drain}

module _ {T J S X V M : Type 0} {u : kind.Ghosts S T} {j : join.Ghosts J X V M} {l : layers.Ghosts M} where
  -- the storage behind the cursor, and which reference to it the cursor holds
  abbrev pub slot : Drain T J S X V M u j l → Slot T
  slot c = c.storage.now

  abbrev pub storage_name : Drain T J S X V M u j l → GName
  storage_name c = c.storage.ghost_name

  -- the index at which it stands, and what the storage has there
  abbrev pub here : Drain T J S X V M u j l → Option ℕ
  here c = c.steps.current

  abbrev pub component : Drain T J S X V M u j l → Option T
  component c = option_and_then (map.get (slot c).map) (here c)

  -- whether what is beside that index was given
  abbrev pub is_given : Drain T J S X V M u j l → Bool
  is_given c = c.steps.given

  -- the indices that are left, ascending
  abbrev pub rest : Drain T J S X V M u j l → List ℕ
  rest c = left (λ i. map.contains_key (slot c).map i && l.has c.steps.mask 0 i) (position c.steps.walk)

  -- r is what stands beside the index, which was neither passed nor given
  abbrev pub gives : Drain T J S X V M u j l → ℕ → X → Type 0
  gives c i r = Gives c.steps i r

module _ (T S : RattleType) {u : kind.Ghosts S.Denot T.Denot} {J X V M : Type 0} {j : join.Ghosts J X V M} {l : layers.Ghosts M} where
  -- once the cursor ends, the view has the slot that it left
  abbrev pub lends_drain : MutBor (WriteStorage T.Denot S.Denot) → Drain T.Denot J S.Denot X V M u j l → Fml
  lends_drain v c =
      follows (view.the_row (record { mir = named 1; lft = [] }) T S u) (masked.the_row T S u) v.ghost_name (storage_name c) (with_slot v.now)
