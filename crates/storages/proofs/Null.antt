-- On a storage of one value.
use Rattle.std.proofs.Common.{◌≡◌, ℕ, refl, ap, Some}
use Rattle.std.specs.Prelude.{Result}
use Rattle.storages.specs.declared.event.ComponentEvent.TheVariants.{Inserted, Modified}
use Rattle.storages.specs.Meaning.{Puts, Writes}
use Rattle.storages.specs.Null.{meaning_of}

module _ {T : Type 0} (equal : (a b : T) → a ≡ b) where
  pub null-inserts : (x y z : T) (id : ℕ) → Puts (meaning_of x) (meaning_of y) id z (Inserted id)
  null-inserts x y z id = record {
    touches = record { others = λ q ne h. ap Some (equal y x); free = λ q ne h. refl; extent = refl; order = tt; channel = refl; needs_room = refl; room = λ n h. tt; needs_inner = refl; inner_room = λ n h. tt };
    put = ap Some (equal y z);
  }

  null-puts : (x y z : T) (id : ℕ) → Puts (meaning_of x) (meaning_of y) id z (Modified id)
  null-puts x y z id = record {
    touches = record { others = λ q ne h. ap Some (equal y x); free = λ q ne h. refl; extent = refl; order = refl; channel = refl; needs_room = refl; room = λ n h. tt; needs_inner = refl; inner_room = λ n h. tt };
    put = ap Some (equal y z);
  }

  pub null-writes : {B E : Type 0} (r : Result B E) (x y z : T) (id : ℕ) → Writes r (meaning_of x) (meaning_of y) id z
  null-writes r x y z id = record { presence = record { present = λ q h. refl; free = λ q h. refl }; puts = λ ok. null-puts x y z id }
