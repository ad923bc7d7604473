-- One record more.
use Rattle.std.proofs.Common.{List, [], ◌∷◌, ◌++◌}
use Rattle.std.specs.Prelude.{Option, Result, Ok, Err, IfOk}
use Rattle.entities.specs.declared.entity.Entity.{Entity}
use Rattle.saveload.specs.declared.entity_data.EntityData.{EntityData}
use Rattle.saveload.specs.Conversion.{Conversion}
use Rattle.saveload.specs.Saved.{IsRecord, IsSavedList}

module _ {M V D : Type 0} (c : Conversion M V D) (marker_of : Entity → Option M) (values : Entity → V) where
  pub saved_more : (es : List Entity) (rs : List (EntityData M D)) (e : Entity) (r : EntityData M D) → IsSavedList c marker_of values es rs → IsRecord c marker_of values e r → IsSavedList c marker_of values (es ++ e ∷ []) (rs ++ r ∷ [])
  saved_more [] [] e r h k = (k, tt)
  saved_more [] (q ∷ rs) e r h k = absurd h
  saved_more (x ∷ es) [] e r h k = absurd h
  saved_more (x ∷ es) (q ∷ rs) e r h k = (h.0, saved_more es rs e r h.1 k)

pub if_ok : {A E : Type 0} {P Q : A → Type 0} (r : Result A E) → ((x : A) → P x → Q x) → IfOk r P → IfOk r Q
if_ok (Ok x) f h = f x h
if_ok (Err e) f h = h
