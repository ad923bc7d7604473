-- What a faithful conversion keeps.
use Rattle.std.specs.Prelude.{◌≡◌}
use Rattle.std.proofs.Common.{◌∙◌}
use Rattle.entities.specs.declared.entity.Entity.{Entity}
use Rattle.saveload.specs.Conversion.{Conversion, IsFaithful, Has, KeepsValues}

pub faithful_keeps : {M V D : Type 0} (c : Conversion M V D) → IsFaithful c → KeepsValues c
faithful_keeps c w f g v back = w.loaded_saved f g v ∙ w.renamed_same (λ x. g (f x)) (λ x. x) v back ∙ w.renamed_itself v
