-- What a load leaves.
use Rattle.std.proofs.Common.{◌≡◌, ℕ, Bool, List, [], ◌∷◌, map, refl, sym, ap, ◌∙◌, subst, inl, inr, Option, Some}
use Rattle.std.specs.Prelude.{◌⊎◌, unwrap_or, pos}
use Rattle.std.proofs.lemmas.Bool.{eq-eqb, ne_eqb}
use Rattle.std.proofs.lemmas.Option.{same_Some}
use Rattle.entities.specs.declared.entity.Entity.{Entity}
use Rattle.entities.specs.Population.{index_of}
use Rattle.saveload.specs.declared.entity_data.EntityData.{EntityData}
use Rattle.saveload.specs.Conversion.{Conversion, IsFaithful, Has}
use Rattle.saveload.specs.Loads.{Loading, LoadsRecord, Loads, entity_of, named}
use Rattle.saveload.specs.Saved.{DistinctIds}
use Rattle.saveload.proofs.Named.{IsExact, has_map}
use Rattle.saveload.proofs.Sound.{IsSound, IsNamed, AreNamed, names, names_all}

module _ {M I V D : Type 0} (id_of : M → I) (eq : I → I → Bool) (x : IsExact eq) (c : Conversion M V D) where
  pub record IsLoaded (old : Loading I V) (r : EntityData M D) (new : Loading I V) : Type 0 where
    pub entity : Entity
    pub sound : IsSound eq x new.naming
    pub grows : (q : I) (f : Entity) → old.naming.mapping q ≡ Some f → new.naming.mapping q ≡ Some f
    pub own : new.naming.mapping (id_of r.marker) ≡ Some entity
    pub mapped : (q : I) → Has (map id_of (c.mentions r.components)) q → (f : Entity) × (new.naming.mapping q ≡ Some f)
    pub only : (q : I) (f : Entity) → new.naming.mapping q ≡ Some f → (old.naming.mapping q ≡ Some f) ⊎ ((id_of r.marker ≡ q) ⊎ Has (map id_of (c.mentions r.components)) q)
    pub row : new.rows (index_of entity) ≡ c.loaded (named id_of new.naming.mapping) r.components
    pub others : (j : ℕ) → (j ≡ index_of entity → ⊥) → new.rows j ≡ old.rows j

  pub loads_record : (old : Loading I V) (r : EntityData M D) (new : Loading I V) → IsSound eq x old.naming → LoadsRecord id_of eq c old r new → IsLoaded old r new
  loads_record old r new s l = record {
    entity = l.entity;
    sound = then.sound;
    grows = λ q f m. then.grows q f (first.grows q f m);
    own = then.grows (id_of r.marker) l.entity first.mapped;
    mapped = then.mapped;
    only = λ q f m. only q f (then.only q f m);
    row = ap (λ (rows : ℕ → V). rows (index_of l.entity)) l.rows ∙ rw (eq-eqb (index_of l.entity) (index_of l.entity) refl) refl;
    others = λ j d. ap (λ (rows : ℕ → V). rows j) l.rows ∙ rw (ne_eqb (index_of l.entity) j (λ e. d (sym e))) refl;
  }
    where
      first : IsNamed eq x old.naming (id_of r.marker) l.entity l.mid
      first = names eq x old.naming (id_of r.marker) l.entity l.mid s l.own

      then : AreNamed eq x l.mid (map id_of (c.mentions r.components)) new.naming
      then = names_all eq x (map id_of (c.mentions r.components)) l.mid new.naming first.sound l.mentioned

      only : (q : I) (f : Entity) → (l.mid.mapping q ≡ Some f) ⊎ Has (map id_of (c.mentions r.components)) q → (old.naming.mapping q ≡ Some f) ⊎ ((id_of r.marker ≡ q) ⊎ Has (map id_of (c.mentions r.components)) q)
      only q f (inr h) = inr (inr h)
      only q f (inl m) = elim (first.only q f m) [ inl k ↦ inl k | inr e ↦ inr (inl e) ]

  pub record AreLoaded (old : Loading I V) (rs : List (EntityData M D)) (new : Loading I V) : Type 0 where
    pub sound : IsSound eq x new.naming
    pub grows : (q : I) (f : Entity) → old.naming.mapping q ≡ Some f → new.naming.mapping q ≡ Some f
    pub only : (q : I) (f : Entity) → new.naming.mapping q ≡ Some f → (old.naming.mapping q ≡ Some f) ⊎ ((r : EntityData M D) × Has rs r × ((id_of r.marker ≡ q) ⊎ Has (map id_of (c.mentions r.components)) q))
    pub each : DistinctIds id_of rs → (r : EntityData M D) → Has rs r → (f : Entity) × (new.naming.mapping (id_of r.marker) ≡ Some f) × (new.rows (index_of f) ≡ c.loaded (named id_of new.naming.mapping) r.components)
    pub rest : (q : I) (f : Entity) → new.naming.mapping q ≡ Some f → ((r : EntityData M D) → Has rs r → id_of r.marker ≡ q → ⊥) → new.rows (index_of f) ≡ old.rows (index_of f)

  grown : (m n : I → Option Entity) (q : I) (f : Entity) → m q ≡ Some f → n q ≡ Some f → entity_of m q ≡ entity_of n q
  grown m n q f a b = ap (λ o. unwrap_or o (0, record { 0 = pos 0 })) (a ∙ sym b)

  one_more : IsFaithful c → (r : EntityData M D) (rs : List (EntityData M D)) (old mid new : Loading I V) → IsLoaded old r mid → AreLoaded mid rs new → AreLoaded old (r ∷ rs) new
  one_more w r rs old mid new first later = record {
    sound = later.sound;
    grows = λ q f m. later.grows q f (first.grows q f m);
    only = λ q f m. only q f (later.only q f m);
    each = each;
    rest = rest;
  }
    where
      only : (q : I) (f : Entity) → (mid.naming.mapping q ≡ Some f) ⊎ ((y : EntityData M D) × Has rs y × ((id_of y.marker ≡ q) ⊎ Has (map id_of (c.mentions y.components)) q)) → (old.naming.mapping q ≡ Some f) ⊎ ((y : EntityData M D) × Has (r ∷ rs) y × ((id_of y.marker ≡ q) ⊎ Has (map id_of (c.mentions y.components)) q))
      only q f (inr h) = inr (h.0, inr h.1, h.2)
      only q f (inl m) = elim (first.only q f m) [ inl k ↦ inl k | inr h ↦ inr (r, inl refl, h) ]

      own : new.naming.mapping (id_of r.marker) ≡ Some first.entity
      own = later.grows (id_of r.marker) first.entity first.own

      kept : c.loaded (named id_of mid.naming.mapping) r.components ≡ c.loaded (named id_of new.naming.mapping) r.components
      kept = w.loaded_same _ _ r.components (λ m h. let k = first.mapped (id_of m) (has_map id_of (c.mentions r.components) m h) in grown mid.naming.mapping new.naming.mapping (id_of m) k.0 k.1 (later.grows (id_of m) k.0 k.1))

      each : DistinctIds id_of (r ∷ rs) → (y : EntityData M D) → Has (r ∷ rs) y → (f : Entity) × (new.naming.mapping (id_of y.marker) ≡ Some f) × (new.rows (index_of f) ≡ c.loaded (named id_of new.naming.mapping) y.components)
      each d y (inr h) = later.each d.1 y h
      each d y (inl e) =
          let P : EntityData M D → Type 0 = λ z. (f : Entity) × (new.naming.mapping (id_of z.marker) ≡ Some f) × (new.rows (index_of f) ≡ c.loaded (named id_of new.naming.mapping) z.components) in
          subst P e (first.entity, own, later.rest (id_of r.marker) first.entity own d.0 ∙ first.row ∙ kept)

      rest : (q : I) (f : Entity) → new.naming.mapping q ≡ Some f → ((y : EntityData M D) → Has (r ∷ rs) y → id_of y.marker ≡ q → ⊥) → new.rows (index_of f) ≡ old.rows (index_of f)
      rest q f m a =
          let other : index_of f ≡ index_of first.entity → ⊥ = λ same. a r (inl refl) (same_Some (id_of r.marker) q (sym (later.sound.agrees (id_of r.marker) first.entity own) ∙ ap new.naming.markers (sym same) ∙ later.sound.agrees q f m)) in
          later.rest q f m (λ y h. a y (inr h)) ∙ first.others (index_of f) other

  pub loads : IsFaithful c → (rs : List (EntityData M D)) (old new : Loading I V) → IsSound eq x old.naming → Loads id_of eq c old rs new → AreLoaded old rs new
  loads w [] old new s l = subst (AreLoaded old []) (sym l) same
    where
      same : AreLoaded old [] old
      same = record { sound = s; grows = λ q f m. m; only = λ q f m. inl m; each = λ d r h. absurd h; rest = λ q f m a. refl }
  loads w (r ∷ rs) old new s l =
      let first = loads_record old r l.0 s l.1 in
      one_more w r rs old l.0 new first (loads w rs l.0 new first.sound l.2)
