-- A spot as JSON: an array of its two numbers.
use Rattle.std.specs.Prelude.{◌≡◌, ◌≤◌, ℕ, false, Option, Some, None, option_map, option_and_then, if◌then◌else◌, refl}
use Rattle.std.specs.Option.{option_zip}
use Rattle.std.proofs.Common.{lit≤}
use Rattle.serde_json.specs.Data.{Data, depth, array, item, no_items}
use Rattle.serde_json.specs.Find.{at}
use Rattle.serde_json.specs.Written.{has_float}
use Rattle.saveload.specs.Json.{has_places}
use Rattle.saveload.specs.JsonNumbers.{id_json, id_from}
use Rattle.callers.specs.declared.spots.Spot.{Spot}

abbrev pub spot_json : Spot → Data
spot_json s = array (item (id_json s.x) (item (id_json s.y) no_items))

abbrev pub spot_of : Option ℕ → Option ℕ → Option Spot
spot_of None y = None
spot_of (Some x) y = option_map (λ v. record { x = x; y = v }) y

abbrev pub spot_from : Data → Option Spot
spot_from d = if has_places 2 d then spot_of (option_and_then id_from (at 0 d)) (option_and_then id_from (at 1 d)) else None

pub spot_whole : (s : Spot) → has_float (spot_json s) ≡ false
spot_whole s = refl

pub spot_shallow : (s : Spot) → depth (spot_json s) ≤ 123
spot_shallow s = lit≤ tt
