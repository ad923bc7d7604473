-- What a cursor that lends the components of two storages means.
use Rattle.std.specs.Prelude.{◌≡◌, ℕ, ◌&&◌, Bool, Option, Result, IsOk, OnErr, IfSome, List, []}
use Rattle.std.specs.FinMap as map
use Rattle.std.specs.Borrow.{RattleType, MutBor, GName, Fml, follows_so, name_if_ok}
use mir.Syntax.{named}
use Rattle.hibits.specs.Left.{left}
use Rattle.hibits.specs.WalkOf.{position}
use Rattle.hibits.specs.declared.layers.Layers as layers
use Rattle.storages.specs.declared.unprotected.Kind as kind
use Rattle.storages.specs.declared.event.ComponentEvent.TheVariants.{Modified}
use Rattle.storages.specs.Slot.{Slot, IsSame, Becomes}
use Rattle.joins.specs.Beside.{Gives}
use Rattle.joins.specs.declared.join.Join as join
use Rattle.joins.specs.declared.cursors.write_join2.WriteJoin2.{WriteJoin2}
use Rattle.joins.specs.contracts.cursors.write_join2.WriteJoin2.{the_row}

module _ {A B J AS BS X V M : Type 0} {ua : kind.Ghosts AS A} {ub : kind.Ghosts BS B} {j : join.Ghosts J X V M} {l : layers.Ghosts M} where
  -- the storages behind the cursor, and which references to them the cursor holds
  abbrev pub first_slot : WriteJoin2 A B J AS BS X V M ua ub j l → Slot A
  first_slot c = c.first.now

  abbrev pub second_slot : WriteJoin2 A B J AS BS X V M ua ub j l → Slot B
  second_slot c = c.second.now

  abbrev pub first_name : WriteJoin2 A B J AS BS X V M ua ub j l → GName
  first_name c = c.first.ghost_name

  abbrev pub second_name : WriteJoin2 A B J AS BS X V M ua ub j l → GName
  second_name c = c.second.ghost_name

  -- the index at which it stands
  abbrev pub here : WriteJoin2 A B J AS BS X V M ua ub j l → Option ℕ
  here c = c.steps.current

  -- whether what is beside that index was given
  abbrev pub is_given : WriteJoin2 A B J AS BS X V M ua ub j l → Bool
  is_given c = c.steps.given

  -- the indices that are left, ascending
  abbrev pub rest : WriteJoin2 A B J AS BS X V M ua ub j l → List ℕ
  rest c = left (λ i. (map.contains_key (first_slot c).map i && map.contains_key (second_slot c).map i) && l.has c.steps.mask 0 i) (position c.steps.walk)

  -- r is what stands beside the index, which was neither passed nor given
  abbrev pub gives : WriteJoin2 A B J AS BS X V M ua ub j l → ℕ → X → Type 0
  gives c i r = Gives c.steps i r

  -- the cursor stands where it stood, with the same before it and beside it
  pub record Stays (c c' : WriteJoin2 A B J AS BS X V M ua ub j l) : Type 0 where
    pub first_reference : first_name c' ≡ first_name c
    pub second_reference : second_name c' ≡ second_name c
    pub here : here c' ≡ here c
    pub rest : rest c' ≡ rest c
    pub given : is_given c' ≡ is_given c
    pub gives : (i : ℕ) (r : X) → gives c' i r → gives c i r

  -- what the cursor is after a write of x to the first storage through the reference that the call answered, if it did
  pub record WritesFirst {R E : Type 0} (r : Result R E) (c c' : WriteJoin2 A B J AS BS X V M ua ub j l) (x : A) : Type 0 where
    pub stays : Stays c c'
    pub other : second_slot c' ≡ second_slot c
    pub becomes : IsOk r → IfSome (c.steps.current) (λ i. Becomes (first_slot c) (first_slot c') (map.insert (first_slot c).map i x) (Modified i))

  -- what the cursor is after that call answered an error, if it did
  pub record RefusesFirst {R E : Type 0} (r : Result R E) (c c' : WriteJoin2 A B J AS BS X V M ua ub j l) : Type 0 where
    pub stays : Stays c c'
    pub other : second_slot c' ≡ second_slot c
    pub same : OnErr r (IsSame (first_slot c) (first_slot c'))

  -- the same of the second storage
  pub record WritesSecond {R E : Type 0} (r : Result R E) (c c' : WriteJoin2 A B J AS BS X V M ua ub j l) (x : B) : Type 0 where
    pub stays : Stays c c'
    pub other : first_slot c' ≡ first_slot c
    pub becomes : IsOk r → IfSome (c.steps.current) (λ i. Becomes (second_slot c) (second_slot c') (map.insert (second_slot c).map i x) (Modified i))

  pub record RefusesSecond {R E : Type 0} (r : Result R E) (c c' : WriteJoin2 A B J AS BS X V M ua ub j l) : Type 0 where
    pub stays : Stays c c'
    pub other : first_slot c' ≡ first_slot c
    pub same : OnErr r (IsSame (second_slot c) (second_slot c'))

module _ (A B J AS BS X V M : RattleType) {ua : kind.Ghosts AS.Denot A.Denot} {ub : kind.Ghosts BS.Denot B.Denot} {j : join.Ghosts J.Denot X.Denot V.Denot M.Denot} {l : layers.Ghosts M.Denot} where
  -- once the borrow r ends, the first storage has the last value written through it at the current index
  abbrev pub lends_first : {E : Type 0} → MutBor (WriteJoin2 A.Denot B.Denot J.Denot AS.Denot BS.Denot X.Denot V.Denot M.Denot ua ub j l) → Result (MutBor A.Denot) E → Fml
  lends_first c r =
      follows_so (the_row (record { mir = named 1; lft = [] }) (record { mir = named 2; lft = [] }) A B J AS BS X V M ua ub j l) A c.ghost_name (name_if_ok (λ x. x.ghost_name) r)
      (λ x n. WritesFirst r c.now n x)
      (λ n. RefusesFirst r c.now n)

  -- the same of the second
  abbrev pub lends_second : {E : Type 0} → MutBor (WriteJoin2 A.Denot B.Denot J.Denot AS.Denot BS.Denot X.Denot V.Denot M.Denot ua ub j l) → Result (MutBor B.Denot) E → Fml
  lends_second c r =
      follows_so (the_row (record { mir = named 1; lft = [] }) (record { mir = named 2; lft = [] }) A B J AS BS X V M ua ub j l) B c.ghost_name (name_if_ok (λ x. x.ghost_name) r)
      (λ x n. WritesSecond r c.now n x)
      (λ n. RefusesSecond r c.now n)
