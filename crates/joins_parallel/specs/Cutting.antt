-- Lists of indices that are cut into pieces, whose indices are asked.
use Rattle.std.specs.Prelude.{◌≡◌, ℕ, ◌++◌, Bool, true, false, List, Option, flat_map, filter_map}
use Rattle.std.specs.List.{AllZip}
use Rattle.hibits.specs.Words.{indices_of}
use Rattle.joins_parallel.specs.declared.cut.Cut.{Cut}
use Rattle.joins_parallel.specs.declared.cut.Cut.TheVariants.{Indices, Words}

-- the indices, ascending
abbrev pub listed : Cut → List ℕ
listed (Indices v) = v.items
listed (Words v) = flat_map indices_of v.items

-- whether they are cut at words
abbrev pub is_at_words : Cut → Bool
is_at_words (Indices v) = false
is_at_words (Words v) = true

-- the values among answers
abbrev pub values_of : {X : Type 0} → List (Option X) → List X
values_of os = filter_map (λ o. o) os

-- there is one answer for each index of a list, in turn, and these are the values among them
pub record Asked {X : Type 0} (answers : ℕ → Option X → Type 0) (is : List ℕ) (xs : List X) : Type 0 where
  pub options : List (Option X)
  pub each : AllZip answers is options
  pub values : xs ≡ values_of options

-- the same, where the values were put at the end of a list
pub record AsksMore {X : Type 0} (answers : ℕ → Option X → Type 0) (is : List ℕ) (old new : List X) : Type 0 where
  pub values : List X
  pub asked : Asked answers is values
  pub more : new ≡ old ++ values
