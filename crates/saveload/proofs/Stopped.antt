-- Where a load stops.
use Rattle.std.proofs.Common.{◌≡◌, ◌+◌, Bool, List, [], ◌∷◌, ◌++◌, map, length, drop, refl, sym, ap, ◌∙◌, Option, Some}
use Rattle.std.specs.Prelude.{Result, Err}
use Rattle.std.specs.Iterator.{Yields}
use Rattle.std.proofs.lemmas.Iterator.{YieldsList}
use Rattle.std.proofs.lemmas.Iterator.Consumers.{YieldsList-so_far, YieldsList-turn}
use Rattle.std.proofs.lemmas.List.{map-append, map-id, take-append-drop, drop_more}
use Rattle.entities.specs.declared.allocator.births.CreateError.{CreateError}
use Rattle.entities.specs.declared.allocator.births.CreateError.TheVariants as creating
use Rattle.entities.specs.declared.entity.Entity.{Entity}
use Rattle.entities.specs.Population.{Population, NoneFree, NoneUnused}
use Rattle.saveload.specs.declared.error.LoadError.{LoadError}
use Rattle.saveload.specs.Naming.{Naming, Names, NamesNone}
use Rattle.saveload.specs.Stops.{of_creating, IsOfNaming, StopsNaming}

-- what is yielded, the item of this turn, and the rest
pub split : {S A : Type 0} {steps : S → Option A → S → Type 0} {s : S} {all : List A} → YieldsList steps (λ (y : A). y) s all → (xs : List A) (t : S) → Yields steps s xs t → (r : Option A) (u : S) (x : A) → r ≡ Some x → steps t r u → all ≡ xs ++ x ∷ drop (length xs + 1) all
split {all = all} e xs t y r u x is st =
    let turn = YieldsList-turn e xs t y r u x is st in
    sym (take-append-drop (length xs) all)
    ∙ ap (λ l. l ++ drop (length xs) all) (sym (YieldsList-so_far e xs t y) ∙ map-id xs)
    ∙ ap (λ l. xs ++ l) (drop_more all (length xs) x turn.0 ∙ ap (λ z. z ∷ drop (length xs + 1) all) (sym turn.1))

-- the same of what is read from each
pub map_split : {A B : Type 0} (f : A → B) (all xs rest : List A) (x : A) → all ≡ xs ++ x ∷ rest → map f all ≡ map f xs ++ f x ∷ map f rest
map_split f all xs rest x e = ap (map f) e ∙ map-append f xs (x ∷ rest)

pub naming_refused : (people : Population) (e : CreateError) → (◌≡◌ {A = Result Entity CreateError} (Err e) (Err creating.IndexLimit) → NoneFree people × NoneUnused people) → IsOfNaming people (of_creating e)
naming_refused people creating.IndexLimit limit = limit refl
naming_refused people creating.OutOfMemory limit = tt

module _ {I : Type 0} (eq : I → I → Bool) where
  -- the first is not named
  pub stops_first : (a b : Naming I) (id : I) (ids : List I) (e : LoadError) → NamesNone eq a id b → IsOfNaming a.people e → StopsNaming eq a (id ∷ ids) e b
  stops_first a b id ids e none why = record { before = []; id = id; rest = ids; list = refl; mid = a; named = refl; none = none; why = why }

  -- the first is named, and a later one isn't
  pub stops_later : (a b d : Naming I) (id : I) (x : Entity) (ids : List I) (e : LoadError) → Names eq a id x b → StopsNaming eq b ids e d → StopsNaming eq a (id ∷ ids) e d
  stops_later a b d id x ids e n s = record { before = id ∷ s.before; id = s.id; rest = s.rest; list = ap (λ l. id ∷ l) s.list; mid = s.mid; named = (x, b, n, s.named); none = s.none; why = s.why }
