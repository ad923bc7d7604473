-- Saving and writing, record by record.
use Rattle.std.proofs.Common.{◌≡◌, ℕ, List, [], ◌∷◌, ◌++◌, Option}
use Rattle.serde_json.specs.Data.{Data}
use Rattle.serde_json.specs.Written.{comma_if}
use Rattle.entities.specs.declared.entity.Entity.{Entity}
use Rattle.saveload.specs.declared.entity_data.EntityData.{EntityData}
use Rattle.saveload.specs.Conversion.{Conversion}
use Rattle.saveload.specs.Saved.{IsRecord, IsSavedList}
use Rattle.saveload.specs.Json.{AllRead, Writes, WritesSome, record_json, record_from}
use Rattle.saveload.proofs.Kept.{something, records_text, write_more, write_all}
use Rattle.saveload.proofs.Saving.{saved_more}

module _ {M V D : Type 0} (mj : M → Data) (mf : Data → Option M) (pj : D → List Data) (pf : Data → Option D) (c : Conversion M V D) (marker_of : Entity → Option M) (values : Entity → V) where
  -- the records of these entities are written behind a text, and what comes before the next
  pub record IsWriting (es : List Entity) (old text separator : List ℕ) : Type 0 where
    pub list : List (EntityData M D)
    pub saved : IsSavedList c marker_of values es list
    pub written : text ≡ old ++ (91 ∷ records_text mj pj list)
    pub comma : separator ≡ comma_if (something list)
    pub read : AllRead (record_json mj pj) (record_from mf pf) list

  pub writing_more : (es : List Entity) (e : Entity) (r : EntityData M D) (old text next new separator : List ℕ) → IsWriting es old text separator → IsRecord c marker_of values e r → next ≡ text ++ separator
      → Writes (record_json mj pj) (record_from mf pf) r next new → IsWriting (es ++ e ∷ []) old new (44 ∷ [])
  writing_more es e r old text next new separator h k n w =
      let more = write_more mj mf pj pf h.list r old text next new separator h.written h.comma h.read n w in
      record { list = h.list ++ r ∷ []; saved = saved_more c marker_of values es h.list e r h.saved k; written = more.0; comma = more.1; read = more.2 }

  pub writing_end : (es : List Entity) (old text new separator : List ℕ) → IsWriting es old text separator → new ≡ text ++ 93 ∷ [] → WritesSome mj mf pj pf (IsSavedList c marker_of values es) old new
  writing_end es old text new separator h n = (h.list, h.saved, write_all mj mf pj pf h.list old text new h.written h.read n)
