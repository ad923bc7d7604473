-- What a view ends as, where a cursor over its storage is returned.
use Rattle.std.specs.Borrow.{RattleType, MutBor, Fml, follows}
use Rattle.std.specs.Prelude.{[]}
use mir.Syntax.{named}
use Rattle.hibits.specs.declared.layers.Layers as layers
use Rattle.storages.specs.declared.unprotected.Kind as kind
use Rattle.storages.specs.declared.write_storage.WriteStorage.{WriteStorage}
use Rattle.storages.specs.contracts.write_storage.WriteStorage.{the_row}
use Rattle.storages.specs.contracts.masked.MaskedStorage as masked
use Rattle.storages.specs.WriteView.{with_slot}
use Rattle.joins.specs.declared.join.Join as join
use Rattle.joins.specs.declared.cursors.write_join.WriteJoin.{WriteJoin}
use Rattle.joins.specs.declared.cursors.entry_join.EntryJoin.{EntryJoin}
use Rattle.joins.specs.declared.cursors.restricted_mut.RestrictedStorageMut.{RestrictedStorageMut}
use Rattle.joins.specs.Cursor.{storage_name}
use Rattle.joins.specs.EntryCursor as entry
use Rattle.joins.specs.Restricting as restricting

module _ (T S : RattleType) {u : kind.Ghosts S.Denot T.Denot} {J X V M : Type 0} {j : join.Ghosts J X V M} {l : layers.Ghosts M} where
  -- once the cursor ends, the view has the slot that it left
  abbrev pub lends_cursor : MutBor (WriteStorage T.Denot S.Denot) → WriteJoin T.Denot J S.Denot X V M u j l → Fml
  lends_cursor v c =
      follows (the_row (record { mir = named 1; lft = [] }) T S u) (masked.the_row T S u) v.ghost_name (storage_name c) (with_slot v.now)

  -- the same of the cursors that know the entities
  abbrev pub lends_entries : MutBor (WriteStorage T.Denot S.Denot) → EntryJoin T.Denot J S.Denot X V M u j l → Fml
  lends_entries v c =
      follows (the_row (record { mir = named 1; lft = [] }) T S u) (masked.the_row T S u) v.ghost_name (entry.storage_name c) (with_slot v.now)

  abbrev pub lends_restricted : MutBor (WriteStorage T.Denot S.Denot) → RestrictedStorageMut T.Denot J S.Denot X V M u j l → Fml
  lends_restricted v c =
      follows (the_row (record { mir = named 1; lft = [] }) T S u) (masked.the_row T S u) v.ghost_name (restricting.storage_name c) (with_slot v.now)
