-- What a load keeps while ids name entities, from a world in which nobody lives and no id is mapped: mapped ids and living entities are one to one.
use Rattle.std.proofs.Common.{◌≡◌, ℕ, ◌+◌, Bool, true, false, ◌||◌, eqb, cond, List, [], ◌∷◌, refl, sym, ap, ◌∙◌, subst, inl, inr, Some}
use Rattle.std.specs.Prelude.{◌⊎◌, pos}
use Rattle.std.proofs.lemmas.Bool.{false≢true, cases_Bool, cases_eq, eq-eqb, ne_eqb}
use Rattle.std.proofs.lemmas.Option.{same_Some}
use Rattle.entities.specs.declared.entity.Entity.{Entity}
use Rattle.entities.specs.Population.{IsAlive, MayBeBorn, born_pending, lives, index_of, generation_of}
use Rattle.saveload.specs.Conversion.{Has}
use Rattle.saveload.specs.Naming.{Naming, Knows, Names, NamesAll, once_given, put_id, put_at}
use Rattle.saveload.proofs.Named.{IsExact, LivingBorn, fresh, living_born}

pub entity_same : (a b : Entity) → index_of a ≡ index_of b → generation_of a ≡ generation_of b → a ≡ b
entity_same a b i g = ap (λ n. (n, record { 0 = generation_of a })) i ∙ ap (λ n. (index_of b, record { 0 = n })) g

module _ {I : Type 0} (eq : I → I → Bool) (w : IsExact eq) where
  pub record IsSound (s : Naming I) : Type 0 where
    pub was_born : LivingBorn s.people
    pub alive : (id : I) (f : Entity) → s.mapping id ≡ Some f → IsAlive s.people f
    pub agrees : (id : I) (f : Entity) → s.mapping id ≡ Some f → s.markers (index_of f) ≡ Some id
    pub full : (f : Entity) → IsAlive s.people f → (id : I) × (s.mapping id ≡ Some f)

  pub record IsNamed (old : Naming I) (id : I) (e : Entity) (new : Naming I) : Type 0 where
    pub sound : IsSound new
    pub grows : (q : I) (f : Entity) → old.mapping q ≡ Some f → new.mapping q ≡ Some f
    pub mapped : new.mapping id ≡ Some e
    pub only : (q : I) (f : Entity) → new.mapping q ≡ Some f → (old.mapping q ≡ Some f) ⊎ (id ≡ q)

  eq_id : (a b : I) → a ≡ b → eq a b ≡ true
  eq_id a b e = (w a b).1 e

  ne_id : (a b : I) → (a ≡ b → ⊥) → eq a b ≡ false
  ne_id a b d = elim (cases_Bool (eq a b)) [ inl t ↦ absurd (d ((w a b).0 t)) | inr f ↦ f ]

  cases_id : (a b : I) → (a ≡ b) ⊎ (a ≡ b → ⊥)
  cases_id a b = elim (cases_Bool (eq a b)) [ inl t ↦ inl ((w a b).0 t) | inr f ↦ inr (λ e. false≢true (sym f ∙ eq_id a b e)) ]

  abbrev after : Naming I → I → Entity → Naming I
  after s id e = record { people = born_pending s.people (index_of e); mapping = put_id eq s.mapping id e; left = once_given s.left id; markers = put_at s.markers (index_of e) id }

  left_true : (b c : Bool) → b ≡ true → (c || b) ≡ true
  left_true b true e = refl
  left_true b false e = e

  made : (old : Naming I) (id : I) (e : Entity) → IsSound old → ((f : Entity) → Knows old id f → ⊥) → MayBeBorn old.people (index_of e) → generation_of e ≡ pos (old.people.births (index_of e) + 1) → IsNamed old id e (after old id e)
  made old id e s unknown may generation = record {
    sound = record { was_born = living_born eq old.people (index_of e) s.was_born; alive = alive; agrees = agrees; full = full };
    grows = grows;
    mapped = rw (eq_id id id refl) refl;
    only = only;
  }
    where
      i : ℕ
      i = index_of e

      none : (f : Entity) → old.mapping id ≡ Some f → ⊥
      none f m = unknown f (record { mapped = m; alive = s.alive id f m; agrees = s.agrees id f m })

      unborn : lives old.people i ≡ true → ⊥
      unborn = fresh eq old.people i s.was_born may

      here : (j : ℕ) → lives old.people j ≡ true → j ≡ i → ⊥
      here j l same = unborn (subst (λ n. lives old.people n ≡ true) same l)

      self : IsAlive (born_pending old.people i) e
      self = rw (eq-eqb i i refl) (left_true true (old.people.merged i) refl, generation)

      alive : (q : I) (f : Entity) → cond (eq id q) (Some e) (old.mapping q) ≡ Some f → IsAlive (born_pending old.people i) f
      alive q f m = elim (cases_id id q) [
        | inl same ↦
            let m' : Some e ≡ Some f = rw (eq_id id q same) at m in
            subst (IsAlive (born_pending old.people i)) (same_Some e f m') self
        | inr d ↦
            let a = s.alive q f (rw (ne_id id q d) at m) in
            rw (ne_eqb (index_of f) i (here (index_of f) a.0)) a
      ]

      agrees : (q : I) (f : Entity) → cond (eq id q) (Some e) (old.mapping q) ≡ Some f → cond (eqb i (index_of f)) (Some id) (old.markers (index_of f)) ≡ Some q
      agrees q f m = elim (cases_id id q) [
        | inl same ↦
            let m' : Some e ≡ Some f = rw (eq_id id q same) at m in
            rw (eq-eqb i (index_of f) (ap index_of (same_Some e f m'))) (ap Some same)
        | inr d ↦
            let k : old.mapping q ≡ Some f = rw (ne_id id q d) at m in
            rw (ne_eqb i (index_of f) (λ same. here (index_of f) (s.alive q f k).0 (sym same))) (s.agrees q f k)
      ]

      full : (f : Entity) → IsAlive (born_pending old.people i) f → (q : I) × (cond (eq id q) (Some e) (old.mapping q) ≡ Some f)
      full f a = elim (cases_eq (index_of f) i) [
        | inl same ↦
            let g : generation_of f ≡ pos (old.people.births (index_of f) + 1) = rw (eq-eqb (index_of f) i same) at a.1 in
            (id, rw (eq_id id id refl) (ap Some (entity_same e f (sym same) (generation ∙ ap (λ n. pos (old.people.births n + 1)) (sym same) ∙ sym g))))
        | inr d ↦
            let a0 : lives old.people (index_of f) ≡ true = rw (ne_eqb (index_of f) i d) at a.0 in
            let a1 : generation_of f ≡ pos (old.people.births (index_of f)) = rw (ne_eqb (index_of f) i d) at a.1 in
            let k = s.full f (a0, a1) in
            (k.0, rw (ne_id id k.0 (λ same. none f (ap old.mapping same ∙ k.1))) k.1)
      ]

      grows : (q : I) (f : Entity) → old.mapping q ≡ Some f → cond (eq id q) (Some e) (old.mapping q) ≡ Some f
      grows q f m = rw (ne_id id q (λ same. none f (ap old.mapping same ∙ m))) m

      only : (q : I) (f : Entity) → cond (eq id q) (Some e) (old.mapping q) ≡ Some f → (old.mapping q ≡ Some f) ⊎ (id ≡ q)
      only q f m = elim (cases_id id q) [
        | inl same ↦ inr same
        | inr d ↦ inl (rw (ne_id id q d) at m)
      ]

  naming_same : (a b : Naming I) → a.people ≡ b.people → a.mapping ≡ b.mapping → a.left ≡ b.left → a.markers ≡ b.markers → a ≡ b
  naming_same a b p m l k =
      ap (λ x. record { people = x; mapping = a.mapping; left = a.left; markers = a.markers }) p ∙ ap (λ x. record { people = b.people; mapping = x; left = a.left; markers = a.markers }) m
      ∙ ap (λ x. record { people = b.people; mapping = b.mapping; left = x; markers = a.markers }) l ∙ ap (λ x. record { people = b.people; mapping = b.mapping; left = b.left; markers = x }) k

  there : (old : Naming I) (id : I) (e : Entity) → IsSound old → Knows old id e → IsNamed old id e old
  there old id e s k = record { sound = s; grows = λ q f m. m; mapped = k.mapped; only = λ q f m. inl m }

  pub names : (old : Naming I) (id : I) (e : Entity) (new : Naming I) → IsSound old → Names eq old id e new → IsNamed old id e new
  names old id e new s (inl k) = subst (IsNamed old id e) (sym k.1) (there old id e s k.0)
  names old id e new s (inr m) = subst (IsNamed old id e) (sym (naming_same new (after old id e) m.people m.mapping m.left m.markers)) (made old id e s m.unknown m.may m.generation)

  pub record AreNamed (old : Naming I) (ids : List I) (new : Naming I) : Type 0 where
    pub sound : IsSound new
    pub grows : (q : I) (f : Entity) → old.mapping q ≡ Some f → new.mapping q ≡ Some f
    pub mapped : (q : I) → Has ids q → (f : Entity) × (new.mapping q ≡ Some f)
    pub only : (q : I) (f : Entity) → new.mapping q ≡ Some f → (old.mapping q ≡ Some f) ⊎ Has ids q

  -- one id, then others
  one_more : (id : I) (ids : List I) (e : Entity) (old mid new : Naming I) → IsNamed old id e mid → AreNamed mid ids new → AreNamed old (id ∷ ids) new
  one_more id ids e old mid new first rest = record {
    sound = rest.sound;
    grows = λ q f m. rest.grows q f (first.grows q f m);
    mapped = mapped;
    only = λ q f m. only q f (rest.only q f m);
  }
    where
      mapped : (q : I) → (id ≡ q) ⊎ Has ids q → (f : Entity) × (new.mapping q ≡ Some f)
      mapped q (inl same) = (e, ap new.mapping (sym same) ∙ rest.grows id e first.mapped)
      mapped q (inr h) = rest.mapped q h

      only : (q : I) (f : Entity) → (mid.mapping q ≡ Some f) ⊎ Has ids q → (old.mapping q ≡ Some f) ⊎ ((id ≡ q) ⊎ Has ids q)
      only q f (inr h) = inr (inr h)
      only q f (inl m) = elim (first.only q f m) [ inl k ↦ inl k | inr same ↦ inr (inl same) ]

  pub names_all : (ids : List I) (old new : Naming I) → IsSound old → NamesAll eq old ids new → AreNamed old ids new
  names_all [] old new s n = subst (AreNamed old []) (sym n) same
    where
      same : AreNamed old [] old
      same = record { sound = s; grows = λ q f m. m; mapped = λ q h. absurd h; only = λ q f m. inl m }
  names_all (id ∷ ids) old new s n =
      let first = names old id n.0 n.1 s n.2 in
      one_more id ids n.0 old n.1 new first (names_all ids n.1 new first.sound n.3)
