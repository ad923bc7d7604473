-- Which ids a load gives, and that the next number is none of them.
use Rattle.std.proofs.Common.{◌≡◌, ℕ, ◌+◌, ◌-◌, ◌<◌, ◌≤◌, ◌^◌, max, Bool, true, false, cond, List, [], ◌∷◌, ◌++◌, map, refl, sym, ap, ◌∙◌, subst, inl, inr, Option, Some, None, arith, nat_eq}
use Rattle.std.specs.Prelude.{◌⊎◌, is_some}
use Rattle.std.proofs.lemmas.Bool.{false≢true}
use Rattle.std.proofs.lemmas.List.{append_assoc, append-nil}
use Rattle.std.proofs.lemmas.Option.{same_Some}
use Rattle.entities.specs.declared.entity.Entity.{Entity}
use Rattle.saveload.specs.declared.entity_data.EntityData.{EntityData}
use Rattle.saveload.specs.declared.simple.SimpleMarker.{SimpleMarker}
use Rattle.saveload.specs.Conversion.{Conversion, Has}
use Rattle.saveload.specs.Naming.{Naming, Names, NamesAll}
use Rattle.saveload.specs.Loads.{Loading, LoadsRecord}
use Rattle.saveload.specs.Numbers.{same_numbers}
use Rattle.saveload.specs.Simple.{number_of_marker, numbers_from, numbers_past}
use Rattle.saveload.specs.Giving.{Gives, GivesIds, NextIsNew}
use Rattle.saveload.proofs.Named.{IsExact}

module _ {I : Type 0} where
  has_first : (xs ys : List I) (q : I) → Has xs q → Has (xs ++ ys) q
  has_first [] ys q h = absurd h
  has_first (x ∷ xs) ys q (inl e) = inl e
  has_first (x ∷ xs) ys q (inr h) = inr (has_first xs ys q h)

  has_later : (xs ys : List I) (q : I) → Has ys q → Has (xs ++ ys) q
  has_later [] ys q h = h
  has_later (x ∷ xs) ys q h = inr (has_later xs ys q h)

  gives_none : (s : Naming I) → Gives s [] s
  gives_none s = record { left = λ more. refl; only = λ q e m. inl m }

  gives_both : (a b d : Naming I) (xs ys : List I) → Gives a xs b → Gives b ys d → Gives a (xs ++ ys) d
  gives_both a b d xs ys g h = record {
    left = λ more. h.left more ∙ g.left (ys ++ more) ∙ ap a.left (sym (append_assoc xs ys more));
    only = λ q e m. only q e (h.only q e m);
  }
    where
      only : (q : I) (e : Entity) → (b.mapping q ≡ Some e) ⊎ Has ys q → (a.mapping q ≡ Some e) ⊎ Has (xs ++ ys) q
      only q e (inr k) = inr (has_later xs ys q k)
      only q e (inl m) = elim (g.only q e m) [ inl k ↦ inl k | inr k ↦ inr (has_first xs ys q k) ]

module _ {I : Type 0} (eq : I → I → Bool) (w : IsExact eq) where
  one_given : (a b : Naming I) (id : I) (e : Entity) → Names eq a id e b → (ids : List I) × Gives a ids b
  one_given a b id e (inl k) = ([], subst (λ s. Gives a [] s) (sym k.1) (gives_none a))
  one_given a b id e (inr m) = (id ∷ [], record { left = λ more. ap (λ (f : List I → Option ℕ). f more) m.left; only = only })
    where
      by : (q : I) (f : Entity) (t : Bool) → eq id q ≡ t → cond t (Some e) (a.mapping q) ≡ Some f → (a.mapping q ≡ Some f) ⊎ Has (id ∷ []) q
      by q f true t k = inr (inl ((w id q).0 t))
      by q f false t k = inl k

      only : (q : I) (f : Entity) → b.mapping q ≡ Some f → (a.mapping q ≡ Some f) ⊎ Has (id ∷ []) q
      only q f k = by q f (eq id q) refl (sym (ap (λ (f : I → Option Entity). f q) m.mapping) ∙ k)

  all_given : (ids : List I) (a b : Naming I) → NamesAll eq a ids b → (given : List I) × Gives a given b
  all_given [] a b n = ([], subst (λ s. Gives a [] s) (sym n) (gives_none a))
  all_given (id ∷ ids) a b n =
      let first = one_given a n.1 id n.0 n.2 in
      let rest = all_given ids n.1 b n.3 in
      (first.0 ++ rest.0, gives_both a n.1 b first.0 rest.0 first.1 rest.1)

module _ {M I V D : Type 0} (id_of : M → I) (eq : I → I → Bool) (w : IsExact eq) (c : Conversion M V D) where
  record_gives : (r : EntityData M D) (old new : Loading I V) → LoadsRecord id_of eq c old r new → (ids : List I) × Gives old.naming ids new.naming
  record_gives r old new l =
      let own = one_given eq w old.naming l.mid (id_of r.marker) l.entity l.own in
      let rest = all_given eq w (map id_of (c.mentions r.components)) l.mid new.naming l.mentioned in
      (own.0 ++ rest.0, gives_both old.naming l.mid new.naming own.0 rest.0 own.1 rest.1)

  pub gives_ids : GivesIds id_of eq c
  gives_ids [] old new l = ([], subst (λ (s : Loading I V). Gives old.naming [] s.naming) (sym l) (gives_none old.naming))
  gives_ids (r ∷ rs) old new l =
      let first = record_gives r old l.0 l.1 in
      let rest = gives_ids rs l.0 new l.2 in
      (first.0 ++ rest.0, gives_both old.naming l.0.naming new.naming first.0 rest.0 first.1 rest.1)

-- the next number after some were given
abbrev reached : ℕ → List ℕ → ℕ
reached next [] = next
reached next (id ∷ ids) = reached (max next (id + 1)) ids

reached_from : (next : ℕ) (ids : List ℕ) → numbers_past next ids ≡ numbers_from (reached next ids)
reached_from next [] = refl
reached_from next (id ∷ ids) = reached_from (max next (id + 1)) ids

grows : (next : ℕ) (ids : List ℕ) → next ≤ reached next ids
grows next [] = omega arith
grows next (id ∷ ids) = let later = grows (max next (id + 1)) ids in omega (arith, later)

above : (next : ℕ) (ids : List ℕ) (q : ℕ) → Has ids q → q < reached next ids
above next [] q h = absurd h
above next (id ∷ ids) q (inl e) = let later = grows (max next (id + 1)) ids in omega (arith, e, later)
above next (id ∷ ids) q (inr h) = above (max next (id + 1)) ids q h

next_reached : (first next : ℕ) (ids : List ℕ) → next < 2 ^ 64 → numbers_from next ≡ numbers_from (reached first ids) → next ≡ reached first ids
next_reached first next ids fits e = let same = same_Some (2 ^ 64 - next) (2 ^ 64 - reached first ids) e in omega (arith, fits, same)

unmapped : (o : Option Entity) → ((e : Entity) → o ≡ Some e → ⊥) → o ≡ None
unmapped None h = refl
unmapped (Some e) h = absurd (h e refl)

pub next_is_new : {T V D : Type 0} (c : Conversion (SimpleMarker T) V D) → NextIsNew c
next_is_new {T} {V} {D} c rs old new first next none before after l fits =
    let given = gives_ids number_of_marker nat_eq same_numbers c rs old new l in
    let left : numbers_from next ≡ numbers_past first (given.0 ++ []) = sym (ap (λ (f : List ℕ → Option ℕ). f []) after) ∙ given.1.left [] ∙ ap (λ (f : List ℕ → Option ℕ). f (given.0 ++ [])) before in
    let at : next ≡ reached first given.0 = next_reached first next given.0 fits (left ∙ ap (numbers_past first) (append-nil given.0) ∙ reached_from first given.0) in
    unmapped (new.naming.mapping next) (λ e m. elim (given.1.only next e m) [
      | inl k ↦ false≢true (ap is_some (sym (none next) ∙ k))
      | inr h ↦ let low = above first given.0 next h in omega (arith, at, low)
    ])
