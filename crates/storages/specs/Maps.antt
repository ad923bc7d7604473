-- What a map from indices to values means.
use Rattle.std.specs.Prelude.{ℕ, Option, None, List, [], is_none, refl}
use Rattle.std.proofs.Common.{ap}
use Rattle.std.specs.Ordering.{nat_cmp}
use Rattle.std.specs.BTreeMap as tree
use Rattle.std.specs.Map.{lookup}
use Rattle.storages.specs.Channel.{silent}
use Rattle.storages.specs.Meaning.{Meaning, IsNew}

module _ {T : Type 0} where
  -- a map as the function that finds the value at an index
  abbrev pub meaning_by : (ℕ → Option T) → Meaning T
  meaning_by get = record { at = get; is_free = λ q. is_none (get q); extent = None; order = []; channel = silent; room = None; inner_room = None }

  abbrev pub meaning_of_tree : tree.BTreeMap ℕ T → Meaning T
  meaning_of_tree m = meaning_by (tree.get nat_cmp m)

  pub new_of_no_tree : (m : tree.BTreeMap ℕ T) → tree.IsEmpty m → IsNew (meaning_of_tree m)
  new_of_no_tree m e = record {
    free = λ q. ap (λ (es : List (ℕ × T)). is_none (lookup (tree.is_at (nat_cmp q)) es)) e;
    extent = refl;
    registered = refl;
    readers = refl;
    emission = refl;
    room = refl;
    inner_room = refl;
  }
