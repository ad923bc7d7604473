-- What a cursor over the entries of the living means.
use Rattle.std.specs.Prelude.{◌≡◌, ℕ, ◌&&◌, Bool, Option, Result, IsOk, OnErr, List, []}
use Rattle.std.specs.Borrow.{RattleType, MutBor, GName, Fml, follows_so, name_if_ok}
use mir.Syntax.{named}
use Rattle.entities.specs.Census.{Census, population}
use Rattle.entities.specs.Population.{lives}
use Rattle.hibits.specs.Left.{left}
use Rattle.hibits.specs.WalkOf.{position}
use Rattle.hibits.specs.declared.layers.Layers as layers
use Rattle.storages.specs.declared.unprotected.Kind as kind
use Rattle.storages.specs.contracts.masked.MaskedStorage as masked
use Rattle.storages.specs.Slot.{Slot}
use Rattle.joins.specs.Beside.{Gives}
use Rattle.joins.specs.declared.join.Join as join
use Rattle.joins.specs.declared.cursors.entry_join.EntryJoin.{EntryJoin}
use Rattle.joins.specs.contracts.cursors.entry_join.EntryJoin.{the_row}

module _ {T J S X V M : Type 0} {u : kind.Ghosts S T} {j : join.Ghosts J X V M} {l : layers.Ghosts M} where
  -- the storage behind the cursor, the entities beside it, and which reference to the storage the cursor holds
  abbrev pub slot : EntryJoin T J S X V M u j l → Slot T
  slot c = c.storage.now

  abbrev pub entities_of : EntryJoin T J S X V M u j l → Census
  entities_of c = c.entities.now

  abbrev pub storage_name : EntryJoin T J S X V M u j l → GName
  storage_name c = c.storage.ghost_name

  -- the index at which it stands
  abbrev pub here : EntryJoin T J S X V M u j l → Option ℕ
  here c = c.steps.current

  -- whether what is beside that index was given
  abbrev pub is_given : EntryJoin T J S X V M u j l → Bool
  is_given c = c.steps.given

  -- the indices that are left, ascending
  abbrev pub rest : EntryJoin T J S X V M u j l → List ℕ
  rest c = left (λ i. lives (population (entities_of c)) i && l.has c.steps.mask 0 i) (position c.steps.walk)

  -- r is what stands beside the index, which was neither passed nor given
  abbrev pub gives : EntryJoin T J S X V M u j l → ℕ → X → Type 0
  gives c i r = Gives c.steps i r

  -- the cursor stands where it stood, over the same entities, and its storage is s
  pub record Has (c c' : EntryJoin T J S X V M u j l) (s : Slot T) : Type 0 where
    pub same_reference : storage_name c' ≡ storage_name c
    pub entities : entities_of c' ≡ entities_of c
    pub here : here c' ≡ here c
    pub rest : rest c' ≡ rest c
    pub given : is_given c' ≡ is_given c
    pub gives : (i : ℕ) (r : X) → gives c' i r → gives c i r
    pub slot : slot c' ≡ s

module _ (T J S X V M : RattleType) {u : kind.Ghosts S.Denot T.Denot} {j : join.Ghosts J.Denot X.Denot V.Denot M.Denot} {l : layers.Ghosts M.Denot} where
  -- once the borrow r ends, the cursor has the slot that was left there
  abbrev pub lends_storage : {E : Type 0} → MutBor (EntryJoin T.Denot J.Denot S.Denot X.Denot V.Denot M.Denot u j l) → Result (MutBor (Slot T.Denot)) E → Fml
  lends_storage c r =
      follows_so (the_row (record { mir = named 1; lft = [] }) (record { mir = named 2; lft = [] }) T J S X V M u j l) (masked.the_row T S u) c.ghost_name (name_if_ok (λ x. x.ghost_name) r)
      (λ s n. IsOk r → Has c.now n s)
      (λ n. OnErr r (Has c.now n (slot c.now)))
