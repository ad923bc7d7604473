-- Texts that are no identifier.
use Rattle.std.proofs.Common.{◌≡◌, ℕ, List, Option, Some, None, Result, Ok, Err, IsOk, ◌↔◌, refl, false}
use Rattle.std.proofs.lemmas.Bool.{false≢true}
use Rattle.uuid.specs.Text.{hyphenated_text, lower, parsed}
use Rattle.saveload.specs.JsonUuids.{uuid_of_text}
use Rattle.saveload.specs.Uuids.{same_bytes}

nothing : {X E : Type 0} (o : Option X) (r : Result X E) (e : E) → (IsOk r ↔ ((u : X) × (o ≡ Some u))) → r ≡ Err e → o ≡ None
nothing None r e f is = refl
nothing (Some u) (Ok x) e f is = absurd (cc)
nothing (Some u) (Err x) e f is = absurd (false≢true (f.1 (u, refl)))

-- a text that is not parsed
pub not_parsed : {E : Type 0} (text : List ℕ) (r : Result (List ℕ) E) (e : E) → (IsOk r ↔ ((u : List ℕ) × (parsed text ≡ Some u))) → r ≡ Err e → None ≡ uuid_of_text text
not_parsed text r e f is = rw (nothing (parsed text) r e f is) refl

-- a text that is parsed, and written otherwise
pub not_written : (text id shown : List ℕ) → Some id ≡ parsed text → shown ≡ hyphenated_text lower id → false ≡ same_bytes shown text → None ≡ uuid_of_text text
not_written text id shown p s f = rw (← p, ← s, ← f) refl
