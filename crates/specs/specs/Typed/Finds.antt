-- What is found after a call: the lemma that a caller of the typed calls needs, for `using(..)` in its `tactic`.
use Rattle.std.proofs.Common.{◌≡◌, ◌∙◌, ap, sym, refl, ℕ, true, nat_eq, Option, Some, None, arith}
use Rattle.std.proofs.lemmas.Bool.Decides.{nat_tests}
use Rattle.entities.specs.declared.entity.Entity.{Entity}
use Rattle.entities.specs.Population.{Population, index_of}
use Rattle.specs.specs.Slots.Column.{Column}
use Rattle.specs.specs.Typed.Field.{FieldInserts, FieldGets}

itself : (a : ℕ) → nat_eq a a ≡ true
itself a = grind (arith, nat_tests)

module _ {T : Type 0} where
  abbrev at : Option (Column T) → ℕ → Option T
  at None i = None
  at (Some c) i = c.values i

  -- after an insertion the entity finds what was put there
  pub found_put : (p : Population) (old new : Option (Column T)) (e : Entity) (x : T) (before found : Option T) → FieldInserts p old e x before new → FieldGets p new e found → found ≡ Some x
  found_put p old new e x before found put gets =
      gets.alive put.alive ∙ ap (λ o. at o (index_of e)) (sym gets.registered ∙ put.now) ∙ rw (itself (index_of e)) refl
