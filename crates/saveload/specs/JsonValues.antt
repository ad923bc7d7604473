-- Plain values as JSON: flags, texts and numbers.
use Rattle.std.specs.Prelude.{◌≡◌, ◌≤◌, ℕ, ℤ, pos, negsuc, List, Bool, false, Option, refl}
use Rattle.std.proofs.Common.{lit≤}
use Rattle.serde_json.specs.Data.{Data, boolean, string, depth}
use Rattle.serde_json.specs.Find.{as_bool, as_str}
use Rattle.serde_json.specs.Written.{has_float}
use Rattle.saveload.specs.JsonNumbers.{id_json, whole_json}
use Rattle.saveload.specs.JsonParts.{one_parts}
use Rattle.saveload.specs.PartsKept.{IsWhole, IsFlat}

-- a flag
abbrev pub flag_json : Bool → Data
flag_json b = boolean b

abbrev pub flag_from : Data → Option Bool
flag_from d = as_bool d

pub flag_whole : (b : Bool) → has_float (flag_json b) ≡ false
flag_whole b = refl

pub flag_shallow : (b : Bool) → depth (flag_json b) ≤ 123
flag_shallow b = lit≤ tt

pub flag_parts_whole : (b : Bool) → IsWhole (one_parts flag_json b)
flag_parts_whole b = refl

pub flag_parts_flat : (b : Bool) → IsFlat (one_parts flag_json b)
flag_parts_flat b = refl

-- a text, by its bytes
abbrev pub text_json : List ℕ → Data
text_json s = string s

abbrev pub text_from : Data → Option (List ℕ)
text_from d = as_str d

pub text_whole : (s : List ℕ) → has_float (text_json s) ≡ false
text_whole s = refl

pub text_shallow : (s : List ℕ) → depth (text_json s) ≤ 123
text_shallow s = lit≤ tt

pub text_parts_whole : (s : List ℕ) → IsWhole (one_parts text_json s)
text_parts_whole s = refl

pub text_parts_flat : (s : List ℕ) → IsFlat (one_parts text_json s)
text_parts_flat s = refl

-- numbers
pub id_parts_whole : (n : ℕ) → IsWhole (one_parts id_json n)
id_parts_whole n = refl

pub id_parts_flat : (n : ℕ) → IsFlat (one_parts id_json n)
id_parts_flat n = refl

pub whole_parts_whole : (z : ℤ) → IsWhole (one_parts whole_json z)
whole_parts_whole (pos n) = refl
whole_parts_whole (negsuc n) = refl

pub whole_parts_flat : (z : ℤ) → IsFlat (one_parts whole_json z)
whole_parts_flat z = refl
