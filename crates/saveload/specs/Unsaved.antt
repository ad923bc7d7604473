-- Why a row is not saved for a cause of one of its places: each reference up to there is named.
use Rattle.std.specs.Prelude.{ℕ, List, ◌⊎◌, Option}
use Rattle.std.specs.String.{string_bytes}
use Rattle.entities.specs.declared.entity.Entity.{Entity}
use Rattle.saveload.specs.declared.error.SaveError.{SaveError}
use Rattle.saveload.specs.declared.error.SaveError.TheVariants.{Unmarked, Custom, OutOfMemory, IdsExhausted, IdTaken}
use Rattle.saveload.specs.Conversion.{Conversion, Answers, AllNamed}
use Rattle.saveload.specs.Tuples.{three, four, five, six}

-- the causes for which a row may not be saved, by the names that a function gives
abbrev pub Unsaved : Type 0 → Type 0 → Type 1
Unsaved M V = (Entity → Option M) → V → List ℕ → Type 0

-- each reference of the one place is named, and it has this cause
abbrev pub UnsavedOne : {M V D : Type 0} → Conversion M V D → Unsaved M V
UnsavedOne c g v text = AllNamed g (c.references v) × c.unsaved v text

-- each reference of the first place is named, and it has this cause, or the rest has
abbrev pub UnsavedPair : {M V W D : Type 0} → Conversion M V D → Unsaved M W → Unsaved M (V × W)
UnsavedPair c UnsavedRest g v text = AllNamed g (c.references v.0) × (c.unsaved v.0 text ⊎ UnsavedRest g v.1 text)

-- a place has this cause, and each reference of it and of those before it is named
abbrev pub UnsavedTwo : {M X Y A B : Type 0} → Conversion M X A → Conversion M Y B → Unsaved M (X × Y)
UnsavedTwo c1 c2 = UnsavedPair c1 (UnsavedOne c2)

abbrev pub UnsavedThree : {M X Y Z A B C : Type 0} → Conversion M X A → Conversion M Y B → Conversion M Z C
    → Unsaved M (X × Y × Z)
UnsavedThree c1 c2 c3 g v = UnsavedPair c1 (UnsavedTwo c2 c3) g (three.nest v)

abbrev pub UnsavedFour : {M W X Y Z A B C D : Type 0} → Conversion M W A → Conversion M X B → Conversion M Y C → Conversion M Z D
    → Unsaved M (W × X × Y × Z)
UnsavedFour c1 c2 c3 c4 g v = UnsavedPair c1 (UnsavedThree c2 c3 c4) g (four.nest v)

abbrev pub UnsavedFive : {M V W X Y Z A B C D E : Type 0} → Conversion M V A → Conversion M W B → Conversion M X C → Conversion M Y D
    → Conversion M Z E → Unsaved M (V × W × X × Y × Z)
UnsavedFive c1 c2 c3 c4 c5 g v = UnsavedPair c1 (UnsavedFour c2 c3 c4 c5) g (five.nest v)

abbrev pub UnsavedSix : {M U V W X Y Z A B C D E F : Type 0} → Conversion M U A → Conversion M V B → Conversion M W C → Conversion M X D
    → Conversion M Y E → Conversion M Z F → Unsaved M (U × V × W × X × Y × Z)
UnsavedSix c1 c2 c3 c4 c5 c6 g v = UnsavedPair c1 (UnsavedFive c2 c3 c4 c5 c6) g (six.nest v)

-- a cause of its own is one of these
abbrev pub IfCustom : (List ℕ → Type 0) → SaveError → Type 0
IfCustom causes (Unmarked x) = Unit {0}
IfCustom causes (Custom t) = causes (string_bytes t)
IfCustom causes OutOfMemory = Unit {0}
IfCustom causes IdsExhausted = Unit {0}
IfCustom causes IdTaken = Unit {0}

-- what a row is refused for on its own is one of these causes, by what a closure answers
abbrev pub ComesInTurn : {M V D : Type 0} → Unsaved M V → Conversion M V D → (Entity → Option M → Type 0) → V → SaveError → Type 0
ComesInTurn {M} Causes c post v e = (g : Entity → Option M) → Answers post (c.references v) g → IfCustom (Causes g v) e
