-- What the readers of a storage are told of a load.
use Rattle.std.specs.Prelude.{◌≡◌, ℕ, List, [], ◌∷◌, Option, Some, None, IsSome, is_some, refl}
use Rattle.std.proofs.Common.{◌∙◌}
use Rattle.std.specs.FinMap as finmap
use Rattle.std.specs.Borrow.{MutBor}
use Rattle.entities.specs.declared.entity.Entity.{Entity}
use Rattle.entities.specs.Population.{index_of}
use Rattle.storages.specs.Slot.{Slot, IsSame, Puts, Takes}
use Rattle.saveload.specs.declared.entity_data.EntityData.{EntityData}
use Rattle.saveload.specs.Conversion.{Conversion, GivesEach}
use Rattle.saveload.specs.Places.{place, both}

-- a storage was changed by insertions and removals alone, one after another, each of which its readers were told
pub data IsTold {T : Type 0} (s : Slot T) : Slot T → Type 0 where
  start : IsTold s s
  same : (t u : Slot T) → IsTold s t → IsSame t u → IsTold s u
  put : (t u : Slot T) (i : ℕ) (x : T) → IsTold s t → Puts t u i x (is_some (finmap.get t.map i)) → IsTold s u
  taken : (t u : Slot T) (i : ℕ) → IsTold s t → Takes t u i → IsTold s u

pub told_both : {T : Type 0} (s t u : Slot T) → IsTold s t → IsTold t u → IsTold s u
told_both s t u h start = h
told_both s t u h (same v w k e) = same v w (told_both s t v h k) e
told_both s t u h (put v w i x k e) = put v w i x (told_both s t v h k) e
told_both s t u h (taken v w i k e) = taken v w i (told_both s t v h k) e

-- the same storage is lent still, and its readers were told of each change
pub record IsFilled {T : Type 0} (s t : MutBor (Slot T)) : Type 0 where
  pub loan : s.ghost_name ≡ t.ghost_name
  pub told : IsTold s.now t.now

pub filled_self : {T : Type 0} (s : MutBor (Slot T)) → IsFilled s s
filled_self s = record { loan = refl; told = start }

pub filled_both : {T : Type 0} (s t u : MutBor (Slot T)) → IsFilled s t → IsFilled t u → IsFilled s u
filled_both s t u a b = record { loan = a.loan ∙ b.loan; told = told_both s.now t.now u.now a.told b.told }

-- what is loaded of a place is put at an index, or the component there is taken out, and the readers are told of that once, and of nothing else
abbrev pub StoresOnce : {T : Type 0} → Slot T → ℕ → Option T → Slot T → Type 0
StoresOnce s i (Some x) t = Puts s t i x (is_some (finmap.get s.map i))
StoresOnce s i None t = (IsSome (finmap.get s.map i) → Takes s t i) × (finmap.get s.map i ≡ None → t ≡ s)

-- so is the row of what was saved stored at an entity's index, by what a closure answers
abbrev pub StoresSaved : {M V D P : Type 0} → (P → ℕ → V → P → Type 0) → Conversion M V D → (M → Option Entity → Type 0) → D → Entity → P → P → Type 0
StoresSaved {M} Stores c post d e old new = (f : M → Entity) → GivesEach post (c.mentions d) f → Stores old (index_of e) (c.loaded f d) new

-- and a first place and the rest of a row
abbrev pub StoresWithRest : {M T D W E R : Type 0} → (R → ℕ → W → R → Type 0) → Conversion M T D → Conversion M W E → (M → Option Entity → Type 0) → Option D × E → Entity
    → Slot T → R → Slot T → R → Type 0
StoresWithRest {M} Stores a r post d e first rest first' rest' = (f : M → Entity) → GivesEach post ((both (place a) r).mentions d) f →
    StoresOnce first (index_of e) ((place a).loaded f d.0) first' × Stores rest (index_of e) (r.loaded f d.1) rest'

module _ {M V D P : Type 0} (Stores : P → ℕ → V → P → Type 0) (c : Conversion M V D) where
  -- the row of one record is stored at an index
  abbrev pub StoresRecord : P → EntityData M D → P → Type 0
  StoresRecord old r new = (e : Entity) × (f : M → Entity) × Stores old (index_of e) (c.loaded f r.components) new

  -- the rows of records, one after another
  abbrev pub StoresEach : P → List (EntityData M D) → P → Type 0
  StoresEach old [] new = new ≡ old
  StoresEach old (r ∷ rs) new = (mid : P) × StoresRecord old r mid × StoresEach mid rs new
