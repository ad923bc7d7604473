-- The table that two make.
use Rattle.std.specs.Prelude.{ℕ, Option}
use Rattle.std.specs.Option.{option_map}
use Rattle.specs.specs.Slots.Clones.{Clones}
use Rattle.specs.specs.Slots.Marks.{Markers}
use Rattle.specs.specs.Typed.Shows.{column_as}
use Rattle.specs.specs.Slots.Table.{Table}
use Rattle.composed.specs.declared.either.Either.{Either}
use Rattle.composed.specs.declared.either.Either.TheVariants.{First, Rest}

abbrev pub table_of_both : {K L V W : Type 0} → Table K V → Table L W → Table (Either K L) (Either V W)
table_of_both t u (First k) = option_map (column_as First) (t k)
table_of_both t u (Rest k) = option_map (column_as Rest) (u k)

abbrev pub place_of_both : {K L V W : Type 0} → (V → K) → (W → L) → Either V W → Either K L
place_of_both p q (First v) = First (p v)
place_of_both p q (Rest v) = Rest (q v)

-- what is said of a slot of one of two
abbrev pub of_either : {K L X : Type 0} → (K → X) → (L → X) → Either K L → X
of_either f g (First k) = f k
of_either f g (Rest l) = g l

-- which values a new marker may be: those of the slot's own part
abbrev pub comes_of_both : {K L V W : Type 0} → (K → Option ℕ → V → Type 0) → (L → Option ℕ → W → Type 0) → Either K L → Option ℕ → Either V W → Type 0
comes_of_both f g (First k) left (First v) = f k left v
comes_of_both f g (First k) left (Rest w) = ⊥
comes_of_both f g (Rest l) left (First v) = ⊥
comes_of_both f g (Rest l) left (Rest w) = g l left w

abbrev pub markers_of_both : {K L V W : Type 0} → Markers K V → Markers L W → Markers (Either K L) (Either V W)
markers_of_both m n = record { holds = of_either m.holds n.holds; comes = comes_of_both m.comes n.comes }

-- a clone of a value of the one part is one of that part's
abbrev pub clone_of_both : {V W : Type 0} → (V → V → Type 0) → (W → W → Type 0) → Either V W → Either V W → Type 0
clone_of_both f g (First v) (First v') = f v v'
clone_of_both f g (First v) (Rest w) = ⊥
clone_of_both f g (Rest w) (First v) = ⊥
clone_of_both f g (Rest w) (Rest w') = g w w'

abbrev pub free_of_both : {K L : Type 0} → (K → Type 0) → (L → Type 0) → Either K L → Type 0
free_of_both f g (First k) = f k
free_of_both f g (Rest l) = g l

abbrev pub clones_of_both : {K L V W : Type 0} → Clones K V → Clones L W → Clones (Either K L) (Either V W)
clones_of_both c d = record { is_clone = clone_of_both c.is_clone d.is_clone; is_free = free_of_both c.is_free d.is_free }
