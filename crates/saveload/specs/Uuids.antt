-- Identifiers of sixteen bytes, and what a giver of such identifiers has given.
use Rattle.std.specs.Prelude.{◌≡◌, ◌↔◌, ℕ, List, Option, None, IsTrue, nat_eq, Bool}
use Rattle.std.specs.Cmp.Lexicographic.{pointwise, same_text, other_text}
use Rattle.std.specs.HashMap as hash
use Rattle.std.proofs.Common.{sym, inl, inr}
use Rattle.std.proofs.lemmas.Bool.{cases_Bool}
use Rattle.entities.specs.declared.entity.Entity.{Entity}
use Rattle.rand_core.specs.Stream.{Stream, fill_bytes}
use Rattle.uuid.specs.Parts.{v4_of_fill}
use Rattle.saveload.specs.declared.uuids.UuidMarker.{UuidMarker}
use Rattle.saveload.specs.declared.uuids.UuidMarkerAllocator.{UuidMarkerAllocator}

abbrev pub same_bytes : List ℕ → List ℕ → Bool
same_bytes = pointwise nat_eq

-- the test of identifiers is exact
pub same_uuids : (a b : List ℕ) → IsTrue (same_bytes a b) ↔ (a ≡ b)
same_uuids a b = (λ h. same_text a b (sym h), λ e. sure a b e)
  where
    sure : (a b : List ℕ) → a ≡ b → IsTrue (same_bytes a b)
    sure a b e = elim (cases_Bool (same_bytes a b)) [ inl t ↦ t | inr f ↦ absurd (other_text a b (sym f) e) ]

-- the identifier of a marker
abbrev pub uuid_of_marker : {R : Type 0} → UuidMarker R → List ℕ
uuid_of_marker m = m.uuid

-- the entity that each identifier is mapped to
abbrev pub given_uuids : {R : Type 0} → UuidMarkerAllocator R → List ℕ → Option Entity
given_uuids a = hash.get same_bytes a.mapping

-- the identifier that is drawn from what a generator will answer
abbrev pub drawn_from : Stream → List ℕ
drawn_from s = (v4_of_fill (fill_bytes 16 s)).0

-- what a generator will answer after a draw
abbrev pub after_draw : Stream → Stream
after_draw s = (v4_of_fill (fill_bytes 16 s)).1

-- a new identifier is the one drawn, and names nobody
abbrev pub IsDrawn : (List ℕ → Option Entity) → Stream → List ℕ → Type 0
IsDrawn mapping s id = (id ≡ drawn_from s) × (mapping id ≡ None)
