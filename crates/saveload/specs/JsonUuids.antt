-- Identifiers of sixteen bytes as JSON values: texts of 36 characters, with hyphens and lower-case letters, and no other spelling.
use Rattle.std.specs.Prelude.{◌≡◌, ◌≤◌, ℕ, List, false, Option, Some, None, option_map, option_and_then, if◌then◌else◌, refl}
use Rattle.std.proofs.Common.{lit≤}
use Rattle.serde_json.specs.Data.{Data, depth, string}
use Rattle.serde_json.specs.Find.{as_str}
use Rattle.serde_json.specs.Written.{has_float}
use Rattle.uuid.specs.Text.{hyphenated_text, lower, parsed}
use Rattle.saveload.specs.declared.uuids.UuidMarker.{UuidMarker}
use Rattle.saveload.specs.Uuids.{same_bytes}

abbrev pub uuid_json : {R : Type 0} → UuidMarker R → Data
uuid_json m = string (hyphenated_text lower m.uuid)

-- the identifier that is written so
abbrev pub as_written : List ℕ → List ℕ → Option (List ℕ)
as_written text id = if same_bytes (hyphenated_text lower id) text then Some id else None

abbrev pub uuid_of_text : List ℕ → Option (List ℕ)
uuid_of_text text = option_and_then (as_written text) (parsed text)

abbrev pub uuid_from : {R : Type 0} → Data → Option (UuidMarker R)
uuid_from d = option_map (λ id. record { uuid = id; generator = record {} }) (option_and_then uuid_of_text (as_str d))

pub uuid_whole : {R : Type 0} (m : UuidMarker R) → has_float (uuid_json m) ≡ false
uuid_whole m = refl

pub uuid_shallow : {R : Type 0} (m : UuidMarker R) → depth (uuid_json m) ≤ 123
uuid_shallow m = lit≤ tt
