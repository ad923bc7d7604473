-- Lists that are put at the end of a list, one after another.
use Rattle.std.proofs.Common.{◌≡◌, List, [], ◌++◌, ap, ◌∙◌, append_assoc}

pub both : {X : Type 0} (old a b mid new : List X) → mid ≡ old ++ a → new ≡ mid ++ b → new ≡ old ++ (a ++ b)
both old a b mid new e f = f ∙ ap (λ s. s ++ b) e ∙ append_assoc old a b

-- the list was empty, and got one, two or three, and then the rest
module _ {X : Type 0} (old mid new : List X) (none : old ≡ []) where
  pub one_and : (a rest : List X) → mid ≡ old ++ a → new ≡ mid ++ rest → new ≡ a ++ rest
  one_and a rest e f = both old a rest mid new e f ∙ ap (λ s. s ++ (a ++ rest)) none

  pub two_and : (a b rest : List X) → mid ≡ old ++ (a ++ b) → new ≡ mid ++ rest → new ≡ a ++ (b ++ rest)
  two_and a b rest e f = one_and (a ++ b) rest e f ∙ append_assoc a b rest

  pub three_and : (a b c rest : List X) → mid ≡ old ++ (a ++ (b ++ c)) → new ≡ mid ++ rest → new ≡ a ++ (b ++ (c ++ rest))
  three_and a b c rest e f = one_and (a ++ (b ++ c)) rest e f ∙ append_assoc a (b ++ c) rest ∙ ap (λ s. a ++ s) (append_assoc b c rest)
