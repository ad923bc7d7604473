-- What naming keeps, in any world.
use Rattle.std.proofs.Common.{◌≡◌, ℕ, ◌+◌, Bool, true, false, not, ◌&&◌, ◌||◌, cond, List, [], ◌∷◌, ◌++◌, map, refl, sym, ap, ◌∙◌, subst, inl, inr, Option, Some, arith, IsTrue}
use Rattle.std.specs.Prelude.{◌⊎◌, ◌↔◌, pos, unwrap_or}
use Rattle.std.proofs.lemmas.Bool.{false≢true, cases_Bool, cases_eq, eq-eqb, ne_eqb}
use Rattle.std.proofs.lemmas.Bool.Decides.{Decides-int_eq}
use Rattle.entities.specs.declared.entity.Entity.{Entity}
use Rattle.entities.specs.Population.{Population, IsAlive, MayBeBorn, born_pending, lives, index_of}
use Rattle.storages.specs.Life.{is_alive}
use Rattle.saveload.specs.Conversion.{Has, Conversion}
use Rattle.saveload.specs.Naming.{Naming, Names, NamesAll}
use Rattle.saveload.specs.declared.entity_data.EntityData.{EntityData}
use Rattle.saveload.specs.Loads.{entity_of, Loading, LoadsRecord, Loads}
use Rattle.entities.specs.Census.{Census, population}
use Rattle.entities.specs.Living.{living_is_born}

abbrev pub IsExact : {I : Type 0} → (I → I → Bool) → Type 0
IsExact {I} eq = (a b : I) → IsTrue (eq a b) ↔ (a ≡ b)

abbrev pub LivingBorn : Population → Type 0
LivingBorn p = (i : ℕ) → lives p i ≡ true → p.births i ≡ 0 → ⊥

module _ {I : Type 0} (eq : I → I → Bool) where
  pub names_more : (a b d : Naming I) (ids : List I) (id : I) (e : Entity) → NamesAll eq a ids b → Names eq b id e d → NamesAll eq a (ids ++ id ∷ []) d
  names_more a b d [] id e n m = (e, d, subst (λ s. Names eq s id e d) n m, refl)
  names_more a b d (x ∷ ids) id e n m = (n.0, n.1, n.2, names_more n.1 b d ids id e n.3 m)

  same_id : IsExact eq → (id q : I) → id ≡ q → eq id q ≡ true
  same_id w id q e = (w id q).1 e

  names_some : IsExact eq → (a b : Naming I) (id : I) (e : Entity) → Names eq a id e b → (q : I) → ((f : Entity) × (a.mapping q ≡ Some f)) ⊎ (id ≡ q) → (f : Entity) × (b.mapping q ≡ Some f)
  names_some w a b id e (inl k) q (inl m) = (m.0, ap (λ (s : Naming I). s.mapping q) k.1 ∙ m.1)
  names_some w a b id e (inl k) q (inr same) = (e, ap (λ (s : Naming I). s.mapping q) k.1 ∙ ap a.mapping (sym same) ∙ k.0.mapped)
  names_some w a b id e (inr n) q h = elim (cases_Bool (eq id q)) [
    | inl t ↦ (e, ap (λ (m : I → Option Entity). m q) n.mapping ∙ ap (λ b. cond b (Some e) (a.mapping q)) t)
    | inr f ↦ elim h [
      | inl m ↦ (m.0, ap (λ (m : I → Option Entity). m q) n.mapping ∙ ap (λ b. cond b (Some e) (a.mapping q)) f ∙ m.1)
      | inr same ↦ absurd (false≢true (sym f ∙ same_id w id q same))
    ]
  ]

  all_some : IsExact eq → (ids : List I) (a b : Naming I) → NamesAll eq a ids b → (q : I) → ((f : Entity) × (a.mapping q ≡ Some f)) ⊎ Has ids q → (f : Entity) × (b.mapping q ≡ Some f)
  all_some w [] a b n q (inl m) = (m.0, ap (λ (s : Naming I). s.mapping q) n ∙ m.1)
  all_some w [] a b n q (inr h) = absurd h
  all_some w (id ∷ ids) a b n q (inl m) = all_some w ids n.1 b n.3 q (inl (names_some w a n.1 id n.0 n.2 q (inl m)))
  all_some w (id ∷ ids) a b n q (inr (inl e)) = all_some w ids n.1 b n.3 q (inl (names_some w a n.1 id n.0 n.2 q (inr e)))
  all_some w (id ∷ ids) a b n q (inr (inr h)) = all_some w ids n.1 b n.3 q (inr h)

  -- each id that was named is mapped
  pub named_entity : IsExact eq → (ids : List I) (a b : Naming I) → NamesAll eq a ids b → (q : I) → Has ids q → b.mapping q ≡ Some (entity_of b.mapping q)
  named_entity w ids a b n q h = let k = all_some w ids a b n q (inr h) in k.1 ∙ ap Some (sym (ap (λ o. unwrap_or o (0, record { 0 = pos 0 })) k.1))

  not_living : (b c : Bool) → (not b && c) ≡ true → b ≡ true → ⊥
  not_living true c h e = false≢true h
  not_living false c h e = false≢true e

  pub fresh : (p : Population) (i : ℕ) → LivingBorn p → MayBeBorn p i → lives p i ≡ true → ⊥
  fresh p i w (inl free) l = not_living (lives p i) _ free l
  fresh p i w (inr unused) l = w i l unused.1.0

  or_true : (b : Bool) → (b || true) ≡ true
  or_true true = refl
  or_true false = refl

  alive_born : (p : Population) (i : ℕ) (f : Entity) → LivingBorn p → MayBeBorn p i → IsAlive p f → IsAlive (born_pending p i) f
  alive_born p i f w may a =
      let d : index_of f ≡ i → ⊥ = λ same. fresh p i w may (subst (λ n. lives p n ≡ true) same a.0) in
      rw (ne_eqb (index_of f) i d) a

  pub living_born : (p : Population) (i : ℕ) → LivingBorn p → LivingBorn (born_pending p i)
  living_born p i w j l b = elim (cases_eq j i) [
    | inl same ↦ let b' : p.births j + 1 ≡ 0 = rw (eq-eqb j i same) at b in omega (arith, b')
    | inr d ↦ w j (rw (ne_eqb j i d) at l) (rw (ne_eqb j i d) at b)
  ]

  -- the entity that is named is alive, and those that were stay
  pub names_alive : (a b : Naming I) (id : I) (e : Entity) → LivingBorn a.people → Names eq a id e b → LivingBorn b.people × IsAlive b.people e × ((f : Entity) → IsAlive a.people f → IsAlive b.people f)
  names_alive a b id e w (inl k) = let same : b.people ≡ a.people = ap (λ (s : Naming I). s.people) k.1 in
      (subst LivingBorn (sym same) w, subst (λ p. IsAlive p e) (sym same) k.0.alive, λ f h. subst (λ p. IsAlive p f) (sym same) h)
  names_alive a b id e w (inr n) = (
    subst LivingBorn (sym n.people) (living_born a.people (index_of e) w),
    subst (λ p. IsAlive p e) (sym n.people) (rw (eq-eqb (index_of e) (index_of e) refl) (or_true (a.people.merged (index_of e)), n.generation)),
    λ f h. subst (λ p. IsAlive p f) (sym n.people) (alive_born a.people (index_of e) f w n.may h),
  )

  pub all_alive : (ids : List I) (a b : Naming I) → LivingBorn a.people → NamesAll eq a ids b → (f : Entity) → IsAlive a.people f → IsAlive b.people f
  all_alive [] a b w n f h = subst (λ p. IsAlive p f) (sym (ap (λ (s : Naming I). s.people) n)) h
  all_alive (id ∷ ids) a b w n f h = let k = names_alive a n.1 id n.0 w n.2 in all_alive ids n.1 b k.0 n.3 f (k.2 f h)

pub alive_true : (p : Population) (e : Entity) → IsAlive p e → is_alive p e ≡ true
alive_true p e h = rw h.0 ((Decides-int_eq _ _).1 h.1)

pub has_map : {X Y : Type 0} (f : X → Y) (xs : List X) (x : X) → Has xs x → Has (map f xs) (f x)
has_map f [] x h = absurd h
has_map f (y ∷ ys) x (inl e) = inl (ap f e)
has_map f (y ∷ ys) x (inr h) = inr (has_map f ys x h)

-- whoever lives was born
pub living_born_in : (c : Census) → LivingBorn (population c)
living_born_in c = living_is_born c

module _ {M I V D : Type 0} (id_of : M → I) (eq : I → I → Bool) (c : Conversion M V D) where
  pub loads_more : (a b d : Loading I V) (rs : List (EntityData M D)) (r : EntityData M D) → Loads id_of eq c a rs b → LoadsRecord id_of eq c b r d → Loads id_of eq c a (rs ++ r ∷ []) d
  loads_more a b d [] r l m = (d, subst (λ s. LoadsRecord id_of eq c s r d) l m, refl)
  loads_more a b d (x ∷ rs) r l m = (l.0, l.1, loads_more l.0 b d rs r l.2 m)
