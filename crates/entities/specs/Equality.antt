-- What a hash of an entity reads, and when two refusals are equal.
use Rattle.std.specs.Prelude.{ℕ, Bool, nat_eq, ◌++◌, List}
use Rattle.std.specs.Cmp.Lexicographic.{pointwise}
use Rattle.std.specs.Hash as fed
use Rattle.std.specs.Ordering.{int_eq, on, eq_of_both}
use Rattle.entities.specs.declared.entity.Entity.{Entity}
use Rattle.entities.specs.declared.entity.WrongGeneration.{WrongGeneration}

-- the index, then the generation's number
abbrev pub hashed : Entity → List (List ℕ)
hashed e = fed.u32 e.0 ++ fed.i32 e.1.0

-- of one action, one generation and one entity
abbrev pub same_refusal : WrongGeneration → WrongGeneration → Bool
same_refusal = eq_of_both (on (λ w. w.action.now) (pointwise nat_eq)) (eq_of_both (on (λ w. w.actual_gen.0) int_eq) (eq_of_both (on (λ w. w.entity.0) nat_eq) (on (λ w. w.entity.1.0) int_eq)))
