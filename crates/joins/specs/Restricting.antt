-- What a cursor of a restricted storage means.
use Rattle.std.specs.Prelude.{◌≡◌, ℕ, ◌&&◌, Bool, Option, Result, IsOk, OnErr, IfSome, List, []}
use Rattle.std.specs.Option.{option_and_then}
use Rattle.std.specs.FinMap as map
use Rattle.entities.specs.Census.{Census}
use Rattle.entities.specs.declared.entity.Entity.{Entity}
use Rattle.std.specs.Borrow.{RattleType, MutBor, GName, Fml, follows_so, name_if_ok}
use mir.Syntax.{named}
use Rattle.hibits.specs.Left.{left}
use Rattle.hibits.specs.WalkOf.{position}
use Rattle.hibits.specs.declared.layers.Layers as layers
use Rattle.storages.specs.declared.unprotected.Kind as kind
use Rattle.storages.specs.declared.event.ComponentEvent.TheVariants.{Modified}
use Rattle.storages.specs.Found.{found_in}
use Rattle.storages.specs.Slot.{Slot, IsSame, Becomes}
use Rattle.joins.specs.Beside.{Gives}
use Rattle.joins.specs.declared.join.Join as join
use Rattle.joins.specs.declared.cursors.restricted_mut.RestrictedStorageMut.{RestrictedStorageMut}
use Rattle.joins.specs.contracts.cursors.restricted_mut.RestrictedStorageMut.{the_row}

module _ {T J S X V M : Type 0} {u : kind.Ghosts S T} {j : join.Ghosts J X V M} {l : layers.Ghosts M} where
  -- the storage behind the cursor, and which reference to it the cursor holds
  abbrev pub slot : RestrictedStorageMut T J S X V M u j l → Slot T
  slot c = c.storage.now

  abbrev pub storage_name : RestrictedStorageMut T J S X V M u j l → GName
  storage_name c = c.storage.ghost_name

  -- the entities beside it
  abbrev pub entities_of : RestrictedStorageMut T J S X V M u j l → Census
  entities_of c = c.entities.now

  -- the component of an entity that is alive
  abbrev pub found : RestrictedStorageMut T J S X V M u j l → Entity → Option T
  found c e = found_in (entities_of c) (slot c) e

  -- the index at which it stands
  abbrev pub here : RestrictedStorageMut T J S X V M u j l → Option ℕ
  here c = c.steps.current

  -- the component at that index
  abbrev pub component : RestrictedStorageMut T J S X V M u j l → Option T
  component c = option_and_then (map.get (slot c).map) (here c)

  -- whether what is beside that index was given
  abbrev pub is_given : RestrictedStorageMut T J S X V M u j l → Bool
  is_given c = c.steps.given

  -- the indices that are left, ascending
  abbrev pub rest : RestrictedStorageMut T J S X V M u j l → List ℕ
  rest c = left (λ i. map.contains_key (slot c).map i && l.has c.steps.mask 0 i) (position c.steps.walk)

  -- r is what stands beside the index, which was neither passed nor given
  abbrev pub gives : RestrictedStorageMut T J S X V M u j l → ℕ → X → Type 0
  gives c i r = Gives c.steps i r

  -- the cursor stands where it stood, with the same before it and beside it
  pub record Stays (c c' : RestrictedStorageMut T J S X V M u j l) : Type 0 where
    pub same_reference : storage_name c' ≡ storage_name c
    pub entities : entities_of c' ≡ entities_of c
    pub here : here c' ≡ here c
    pub rest : rest c' ≡ rest c
    pub given : is_given c' ≡ is_given c
    pub gives : (i : ℕ) (r : X) → gives c' i r → gives c i r

  -- what the cursor is after a write of x at an index through the reference that the call answered, if it did
  pub record Writes {B E : Type 0} (r : Result B E) (c c' : RestrictedStorageMut T J S X V M u j l) (o : Option ℕ) (x : T) : Type 0 where
    pub stays : Stays c c'
    pub becomes : IsOk r → IfSome o (λ i. Becomes (slot c) (slot c') (map.insert (slot c).map i x) (Modified i))

  -- what the cursor is after the call answered an error, if it did
  pub record Refuses {B E : Type 0} (r : Result B E) (c c' : RestrictedStorageMut T J S X V M u j l) : Type 0 where
    pub stays : Stays c c'
    pub same : OnErr r (IsSame (slot c) (slot c'))

module _ (T J S X V M : RattleType) {u : kind.Ghosts S.Denot T.Denot} {j : join.Ghosts J.Denot X.Denot V.Denot M.Denot} {l : layers.Ghosts M.Denot} where
  -- once the borrow r ends, the index has the last value written through it
  abbrev pub lends_at : {E : Type 0} → MutBor (RestrictedStorageMut T.Denot J.Denot S.Denot X.Denot V.Denot M.Denot u j l) → Option ℕ → Result (MutBor T.Denot) E → Fml
  lends_at c o r =
      follows_so (the_row (record { mir = named 1; lft = [] }) (record { mir = named 2; lft = [] }) T J S X V M u j l) T c.ghost_name (name_if_ok (λ x. x.ghost_name) r)
      (λ x n. Writes r c.now n o x)
      (λ n. Refuses r c.now n)
