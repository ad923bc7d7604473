-- A walk over layers that stand apart from it.
use Rattle.std.specs.Prelude.{◌≡◌, ℕ, ◌*◌, ◌/◌, Bool, List, [], ◌∷◌}
use Rattle.hibits.specs.declared.limits.TheConstants.{LAYERS}
use Rattle.hibits.specs.declared.walk.Walk.{Walk}
use Rattle.hibits.specs.Walks.{IsWalk, left_in}

-- what is left of the current word of each layer
abbrev pub words_of : Walk → List ℕ
words_of w = w.word0 ∷ w.word1 ∷ w.word2 ∷ w.word3 ∷ w.word4 ∷ []

-- the first index of each layer that isn't walked; above the top layer stands its one word
abbrev pub from_of : Walk → List ℕ
from_of w = w.from ∷ w.end0 / 64 ∷ w.end1 / 64 ∷ w.end2 / 64 ∷ w.end3 / 64 ∷ 1 ∷ []

-- w is a walk over these layers, each word of which takes so many plain words
pub record IsWalkOf (has : ℕ → ℕ → Bool) (cost : ℕ) (w : Walk) : Type 0 where
  pub walk : IsWalk has cost (words_of w) (from_of w) w.reads
  pub end0 : w.end0 ≡ 64 * (w.end0 / 64)
  pub end1 : w.end1 ≡ 64 * (w.end1 / 64)
  pub end2 : w.end2 ≡ 64 * (w.end2 / 64)
  pub end3 : w.end3 ≡ 64 * (w.end3 / 64)

-- the first index that isn't walked
abbrev pub position : Walk → ℕ
position w = w.from

-- how many words of plain sets were read
abbrev pub words_read : Walk → ℕ
words_read w = w.reads

-- how much of the layers is still to be walked
abbrev pub steps_left : Walk → ℕ
steps_left w = left_in (from_of w) LAYERS

-- ---- a walk that takes whole words

-- the walk is between two words of layer 0
pub record IsWordWalkOf (has : ℕ → ℕ → Bool) (cost : ℕ) (w : Walk) : Type 0 where
  pub walk : IsWalkOf has cost w
  pub none : w.word0 ≡ 0
  pub whole : w.from ≡ 64 * (w.from / 64)

-- the place of the first word of layer 0 that isn't walked
abbrev pub next_place : Walk → ℕ
next_place w = w.from / 64
