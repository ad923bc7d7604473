-- Numbers as JSON values.
use Rattle.std.specs.Prelude.{◌≡◌, ◌≤◌, ℕ, ℤ, pos, negsuc, Option, option_map, option_and_then, refl, false}
use Rattle.std.proofs.Common.{lit≤}
use Rattle.serde_json.specs.Data.{Data, depth, number, unsigned}
use Rattle.serde_json.specs.Find.{as_number, as_u64, as_i64, of_integer}
use Rattle.serde_json.specs.Written.{has_float}
use Rattle.saveload.specs.declared.simple.SimpleMarker.{SimpleMarker}

-- a whole number that is not negative
abbrev pub id_json : ℕ → Data
id_json n = number (unsigned n)

abbrev pub id_from : Data → Option ℕ
id_from d = option_and_then as_u64 (as_number d)

pub id_whole : (n : ℕ) → has_float (id_json n) ≡ false
id_whole n = refl

pub id_shallow : (n : ℕ) → depth (id_json n) ≤ 123
id_shallow n = lit≤ tt

-- a marker that is a number is that number
abbrev pub marker_json : {T : Type 0} → SimpleMarker T → Data
marker_json m = id_json m.id

abbrev pub marker_from : {T : Type 0} → Data → Option (SimpleMarker T)
marker_from d = option_map (λ n. record { id = n; kind = record {} }) (id_from d)

-- a whole number, in the range of i64 where it is read
abbrev pub whole_json : ℤ → Data
whole_json z = number (of_integer z)

abbrev pub whole_from : Data → Option ℤ
whole_from d = option_and_then as_i64 (as_number d)

pub whole_whole : (z : ℤ) → has_float (whole_json z) ≡ false
whole_whole (pos n) = refl
whole_whole (negsuc n) = refl

pub whole_shallow : (z : ℤ) → depth (whole_json z) ≤ 123
whole_shallow z = lit≤ tt
