-- Values that hold one thing alone: a reference, or a whole number.
use Rattle.std.specs.Prelude.{◌≡◌, ◌≤◌, [], ◌∷◌, refl, false, ℤ, Option, option_map}
use Rattle.std.proofs.Common.{ap, inl}
use Rattle.entities.specs.declared.entity.Entity.{Entity}
use Rattle.saveload.specs.Conversion.{Conversion, IsFaithful, NoCause}
use Rattle.saveload.specs.JsonNumbers.{whole_json, whole_from, whole_whole, whole_shallow}
use Rattle.serde_json.specs.Data.{Data, depth}
use Rattle.serde_json.specs.Written.{has_float}

-- such a value is saved as the marker of its entity
abbrev pub link_conversion : {M V : Type 0} → (V → Entity) → (Entity → V) → Conversion M V M
link_conversion target link = record {
  references = λ v. target v ∷ [];
  mentions = λ m. m ∷ [];
  saved = λ f v. f (target v);
  loaded = λ g m. link (g m);
  renamed = λ r v. link (r (target v));
  unsaved = λ v. NoCause;
  unloaded = λ m. NoCause;
}

-- where the value is its reference and nothing more
pub link_faithful : {M V : Type 0} → (target : V → Entity) → (link : Entity → V) → ((v : V) → link (target v) ≡ v) → ((e : Entity) → target (link e) ≡ e)
    → IsFaithful (link_conversion {M = M} {V = V} target link)
link_faithful target link whole back = record {
  mentions_saved = λ f v. refl;
  loaded_saved = λ f g v. refl;
  saved_same = λ f h v same. same (target v) (inl refl);
  renamed_same = λ r q v same. ap link (same (target v) (inl refl));
  loaded_same = λ g h d same. ap link (same d (inl refl));
  renamed_itself = whole;
  renamed_twice = λ r q v. ap (λ x. link (q x)) (back (r (target v)));
  references_renamed = λ r v. ap (λ x. x ∷ []) (back (r (target v)));
}

-- a value that is one whole number
abbrev pub position_json : {V : Type 0} → (V → ℤ) → V → Data
position_json number v = whole_json (number v)

abbrev pub position_from : {V : Type 0} → (ℤ → V) → Data → Option V
position_from of d = option_map of (whole_from d)

pub position_whole : {V : Type 0} (number : V → ℤ) (v : V) → has_float (position_json number v) ≡ false
position_whole number v = whole_whole (number v)

pub position_shallow : {V : Type 0} (number : V → ℤ) (v : V) → depth (position_json number v) ≤ 123
position_shallow number v = whole_shallow (number v)
