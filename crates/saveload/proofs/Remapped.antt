-- One entity more whose id is mapped to it.
use Rattle.std.proofs.Common.{◌≡◌, ℕ, Bool, List, [], ◌∷◌, ◌++◌, refl, Option}
use Rattle.entities.specs.declared.entity.Entity.{Entity}
use Rattle.entities.specs.Population.{index_of}
use Rattle.saveload.specs.Remapping.{put_own, put_all}

pub put_all_more : {I : Type 0} (eq : I → I → Bool) (id_at : ℕ → Option I) (es : List Entity) (e : Entity) (m : I → Option Entity) → put_all eq id_at (es ++ e ∷ []) m ≡ put_own eq (id_at (index_of e)) e (put_all eq id_at es m)
put_all_more eq id_at [] e m = refl
put_all_more eq id_at (x ∷ es) e m = put_all_more eq id_at es e (put_own eq (id_at (index_of x)) x m)
