-- Values that refer to no entity.
use Rattle.std.specs.Prelude.{ℕ, List, [], refl}
use Rattle.saveload.specs.Conversion.{Conversion, IsFaithful, NoCause}

-- such a value is its own data; some may be refused by a load, for causes of their own
abbrev pub checked_conversion : {M V : Type 0} → (V → List ℕ → Type 0) → Conversion M V V
checked_conversion refused = record {
  references = λ v. [];
  mentions = λ d. [];
  saved = λ f v. v;
  loaded = λ g d. d;
  renamed = λ r v. v;
  unsaved = λ v. NoCause;
  unloaded = refused;
}

pub checked_faithful : {M V : Type 0} (refused : V → List ℕ → Type 0) → IsFaithful (checked_conversion {M = M} refused)
checked_faithful refused = record {
  mentions_saved = λ f v. refl;
  loaded_saved = λ f g v. refl;
  saved_same = λ f h v same. refl;
  renamed_same = λ r q v same. refl;
  loaded_same = λ g h d same. refl;
  renamed_itself = λ v. refl;
  renamed_twice = λ r q v. refl;
  references_renamed = λ r v. refl;
}

-- no such value is refused
abbrev pub plain_conversion : {M V : Type 0} → Conversion M V V
plain_conversion = checked_conversion (λ v. NoCause)

pub plain_faithful : {M V : Type 0} → IsFaithful (plain_conversion {M = M} {V = V})
plain_faithful = checked_faithful _
