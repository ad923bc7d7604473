-- What a cursor that lends the values of a change set means.
use Rattle.std.specs.Prelude.{◌≡◌, ℕ, ◌&&◌, Bool, Option, IfSome, List, []}
use Rattle.std.specs.FinMap as map
use Rattle.std.specs.Ordering.{nat_cmp}
use Rattle.std.specs.Borrow.{RattleType, MutBor, GName, Fml, LendsSo}
use mir.Syntax.{named}
use Rattle.hibits.specs.Left.{left}
use Rattle.hibits.specs.WalkOf.{position}
use Rattle.hibits.specs.declared.layers.Layers as layers
use Rattle.joins.specs.Beside.{Gives}
use Rattle.joins.specs.declared.join.Join as join
use Rattle.joins.specs.declared.cursors.change_join.ChangeJoin.{ChangeJoin}
use Rattle.joins.specs.contracts.cursors.change_join.ChangeJoin.{the_row}

module _ {T J X V M : Type 0} {j : join.Ghosts J X V M} {l : layers.Ghosts M} where
  -- the values behind the cursor, and which reference to them the cursor holds
  abbrev pub values : ChangeJoin T J X V M j l → map.FinMap nat_cmp T
  values c = c.changes.now

  abbrev pub changes_name : ChangeJoin T J X V M j l → GName
  changes_name c = c.changes.ghost_name

  -- the index at which it stands
  abbrev pub here : ChangeJoin T J X V M j l → Option ℕ
  here c = c.steps.current

  -- whether what is beside that index was given
  abbrev pub is_given : ChangeJoin T J X V M j l → Bool
  is_given c = c.steps.given

  -- the indices that are left, ascending
  abbrev pub rest : ChangeJoin T J X V M j l → List ℕ
  rest c = left (λ i. map.contains_key (values c) i && l.has c.steps.mask 0 i) (position c.steps.walk)

  -- r is what stands beside the index, which was neither passed nor given
  abbrev pub gives : ChangeJoin T J X V M j l → ℕ → X → Type 0
  gives c i r = Gives c.steps i r

  -- the cursor stands where it stood, with the same before it and beside it
  pub record Stays (c c' : ChangeJoin T J X V M j l) : Type 0 where
    pub same_reference : changes_name c' ≡ changes_name c
    pub here : here c' ≡ here c
    pub rest : rest c' ≡ rest c
    pub given : is_given c' ≡ is_given c
    pub gives : (i : ℕ) (r : X) → gives c' i r → gives c i r

  -- what the cursor is after a write of x to the value at its index
  pub record Writes (c c' : ChangeJoin T J X V M j l) (x : T) : Type 0 where
    pub stays : Stays c c'
    pub becomes : IfSome (here c) (λ i. values c' ≡ map.insert (values c) i x)

  -- what it is where it stood at no index
  pub record Rests (c c' : ChangeJoin T J X V M j l) : Type 0 where
    pub stays : Stays c c'
    pub same : values c' ≡ values c

module _ (T J X V M : RattleType) {j : join.Ghosts J.Denot X.Denot V.Denot M.Denot} {l : layers.Ghosts M.Denot} where
  -- once the borrow r ends, the current index has the last value written through it
  abbrev pub lends_value : MutBor (ChangeJoin T.Denot J.Denot X.Denot V.Denot M.Denot j l) → Option (MutBor T.Denot) → Fml
  lends_value c r =
      LendsSo (the_row (record { mir = named 1; lft = [] }) T J X V M j l) T c r
      (λ n x. Writes c.now n x)
      (λ n. Rests c.now n)
