-- What was saved and is loaded into an empty world is renamed.
use Rattle.std.proofs.Common.{◌≡◌, Bool, true, List, [], ◌∷◌, map, refl, sym, ap, ◌∙◌, subst, inl, inr, Option, Some, None, is_some}
use Rattle.std.specs.Prelude.{◌⊎◌, unwrap_or, pos}
use Rattle.std.proofs.lemmas.Bool.{both_ways, false≢true}
use Rattle.std.proofs.lemmas.Option.{same_Some, none-some}
use Rattle.entities.specs.declared.entity.Entity.{Entity}
use Rattle.entities.specs.Population.{IsAlive, lives, index_of}
use Rattle.saveload.specs.declared.entity_data.EntityData.{EntityData}
use Rattle.saveload.specs.Conversion.{Conversion, IsFaithful, Has}
use Rattle.saveload.specs.Saved.{IsRecord, IsSavedList, DistinctIds, HoldsReferences}
use Rattle.saveload.specs.Loads.{Loading, Loads, entity_of, named}
use Rattle.saveload.specs.Law.{IsOneToOne, IsRenamed, IsEmpty, OneRenaming}
use Rattle.saveload.proofs.Named.{IsExact}
use Rattle.saveload.proofs.Sound.{IsSound}
use Rattle.saveload.proofs.Loaded.{AreLoaded, loads}

pub from_map : {X Y : Type 0} (f : X → Y) (xs : List X) (y : Y) → Has (map f xs) y → (x : X) × Has xs x × (f x ≡ y)
from_map f [] y h = absurd h
from_map f (x ∷ xs) y (inl e) = (x, inl refl, e)
from_map f (x ∷ xs) y (inr h) = let r = from_map f xs y h in (r.0, inr r.1, r.2)

module _ {M I V D : Type 0} (id_of : M → I) (eq : I → I → Bool) (exact : IsExact eq) (c : Conversion M V D) (w : IsFaithful c) (marker_of : Entity → Option M) (values : Entity → V) where
  empty_sound : (s : Loading I V) → IsEmpty s → IsSound eq exact s.naming
  empty_sound s e = record {
    was_born = λ i l b. both_ways (lives s.naming.people i) (e.nobody i) l;
    alive = λ id f m. absurd (none-some f (sym (e.unmapped id) ∙ m));
    agrees = λ id f m. absurd (none-some f (sym (e.unmapped id) ∙ m));
    full = λ f a. absurd (both_ways (lives s.naming.people (index_of f)) (e.nobody (index_of f)) a.0);
  }

  -- the record of an entity, and the entity of a record
  record_of : (es : List Entity) (rs : List (EntityData M D)) → IsSavedList c marker_of values es rs → (x : Entity) → Has es x → (r : EntityData M D) × Has rs r × IsRecord c marker_of values x r
  record_of [] [] s x h = absurd h
  record_of [] (r ∷ rs) s x h = absurd s
  record_of (e ∷ es) [] s x h = absurd s
  record_of (e ∷ es) (r ∷ rs) s x (inl same) = (r, inl refl, subst (λ y. IsRecord c marker_of values y r) same s.0)
  record_of (e ∷ es) (r ∷ rs) s x (inr h) = let k = record_of es rs s.1 x h in (k.0, inr k.1, k.2)

  entity_of_record : (es : List Entity) (rs : List (EntityData M D)) → IsSavedList c marker_of values es rs → (r : EntityData M D) → Has rs r → (x : Entity) × Has es x × IsRecord c marker_of values x r
  entity_of_record [] [] s r h = absurd h
  entity_of_record [] (q ∷ rs) s r h = absurd s
  entity_of_record (e ∷ es) [] s r h = absurd s
  entity_of_record (e ∷ es) (q ∷ rs) s r (inl same) = (e, inl refl, subst (λ y. IsRecord c marker_of values e y) same s.0)
  entity_of_record (e ∷ es) (q ∷ rs) s r (inr h) = let k = entity_of_record es rs s.1 r h in (k.0, inr k.1, k.2)

  -- distinct ids tell the entities of the list apart
  told_apart : (es : List Entity) (rs : List (EntityData M D)) → IsSavedList c marker_of values es rs → DistinctIds id_of rs → (x y : Entity) (m n : M) → Has es x → Has es y → marker_of x ≡ Some m → marker_of y ≡ Some n → id_of m ≡ id_of n → x ≡ y
  told_apart [] rs s d x y m n h k a b e = absurd h
  told_apart (z ∷ zs) [] s d x y m n h k a b e = absurd s
  told_apart (z ∷ zs) (r ∷ rs) s d x y m n (inl h) (inl k) a b e = sym h ∙ k
  told_apart (z ∷ zs) (r ∷ rs) s d x y m n (inl h) (inr k) a b e =
      let q = record_of zs rs s.1 y k in
      let here : r.marker ≡ m = same_Some _ _ (sym s.0.own ∙ ap marker_of h ∙ a) in
      let there : q.0.marker ≡ n = same_Some _ _ (sym q.2.own ∙ b) in
      absurd (d.0 q.0 q.1 (ap id_of there ∙ sym e ∙ ap id_of (sym here)))
  told_apart (z ∷ zs) (r ∷ rs) s d x y m n (inr h) (inl k) a b e =
      let q = record_of zs rs s.1 x h in
      let here : r.marker ≡ n = same_Some _ _ (sym s.0.own ∙ ap marker_of k ∙ b) in
      let there : q.0.marker ≡ m = same_Some _ _ (sym q.2.own ∙ a) in
      absurd (d.0 q.0 q.1 (ap id_of there ∙ e ∙ ap id_of (sym here)))
  told_apart (z ∷ zs) (r ∷ rs) s d x y m n (inr h) (inr k) a b e = told_apart zs rs s.1 d.1 x y m n h k a b e

  entity_mapped : (m : I → Option Entity) (q : I) (f : Entity) → m q ≡ Some f → entity_of m q ≡ f
  entity_mapped m q f e = ap (λ o. unwrap_or o (0, record { 0 = pos 0 })) e

  -- a marker of a reference, where each has one
  abbrev or_else : M → Entity → M
  or_else m x = unwrap_or (marker_of x) m

  abbrev renamed_by : (I → Option Entity) → Option M → Entity
  renamed_by mapping None = (0, record { 0 = pos 0 })
  renamed_by mapping (Some m) = named id_of mapping m

  some_of : (o : Option M) (m : M) → is_some o ≡ true → o ≡ Some (unwrap_or o m)
  some_of None m h = absurd (false≢true h)
  some_of (Some n) m h = refl

  pub renames : (es : List Entity) (rs : List (EntityData M D)) (old new : Loading I V) → IsSavedList c marker_of values es rs → DistinctIds id_of rs → HoldsReferences c values es → IsEmpty old → Loads id_of eq c old rs new
      → (r : Entity → Entity) × IsOneToOne es new.naming.people r × IsRenamed id_of c marker_of values es r new
  renames es rs old new saved distinct holds empty l = (r, record { apart = apart; into = into; onto = onto }, record { rows = rows; ids = ids })
    where
      mapping : I → Option Entity
      mapping = new.naming.mapping

      done : AreLoaded id_of eq exact c old rs new
      done = loads id_of eq exact c w rs old new (empty_sound old empty) l

      r : Entity → Entity
      r x = renamed_by mapping (marker_of x)

      r_is : (x : Entity) (m : M) → marker_of x ≡ Some m → r x ≡ named id_of mapping m
      r_is x m e = ap (renamed_by mapping) e

      mapped : (x : Entity) (m : M) → Has es x → marker_of x ≡ Some m → mapping (id_of m) ≡ Some (r x)
      mapped x m h e =
          let q = record_of es rs saved x h in
          let k = done.each distinct q.0 q.1 in
          let same : q.0.marker ≡ m = same_Some _ _ (sym q.2.own ∙ e) in
          let at : mapping (id_of m) ≡ Some k.0 = ap (λ n. mapping (id_of n)) (sym same) ∙ k.1 in
          at ∙ ap Some (sym (r_is x m e ∙ entity_mapped mapping (id_of m) k.0 at))

      own : (x : Entity) → Has es x → (m : M) × (marker_of x ≡ Some m)
      own x h = let q = record_of es rs saved x h in (q.0.marker, q.2.own)

      into : (x : Entity) → Has es x → IsAlive new.naming.people (r x)
      into x h = let m = own x h in done.sound.alive (id_of m.0) (r x) (mapped x m.0 h m.1)

      ids : (x : Entity) (m : M) → Has es x → marker_of x ≡ Some m → new.naming.markers (index_of (r x)) ≡ Some (id_of m)
      ids x m h e = done.sound.agrees (id_of m) (r x) (mapped x m h e)

      apart : (x y : Entity) → Has es x → Has es y → r x ≡ r y → x ≡ y
      apart x y h k e = let m = own x h in let n = own y k in
          told_apart es rs saved distinct x y m.0 n.0 h k m.1 n.1 (same_Some _ _ (sym (ids x m.0 h m.1) ∙ ap (λ (f : Entity). new.naming.markers (index_of f)) e ∙ ids y n.0 k n.1))

      rows : (x : Entity) → Has es x → new.rows (index_of (r x)) ≡ c.renamed r (values x)
      rows x h =
          let q = record_of es rs saved x h in
          let k = done.each distinct q.0 q.1 in
          let f = or_else q.0.marker in
          let by : (y : Entity) → Has (c.references (values x)) y → marker_of y ≡ Some (f y) = λ y m. some_of (marker_of y) q.0.marker (q.2.row.named y m) in
          let at : r x ≡ k.0 = r_is x q.0.marker q.2.own ∙ entity_mapped mapping (id_of q.0.marker) k.0 k.1 in
          ap (λ (g : Entity). new.rows (index_of g)) at ∙ k.2 ∙ ap (c.loaded (named id_of mapping)) (q.2.row.exact f by) ∙ w.loaded_saved f (named id_of mapping) (values x)
          ∙ w.renamed_same _ r (values x) (λ y m. sym (r_is y (f y) (by y m)))

      mention : (f : Entity) (q : I) → mapping q ≡ Some f → (d : EntityData M D) → Has rs d → (id_of d.marker ≡ q) ⊎ Has (map id_of (c.mentions d.components)) q → (y : Entity) × Has es y × (r y ≡ f)
      mention f q m d h (inl e) =
          let x = entity_of_record es rs saved d h in
          (x.0, x.1, r_is x.0 d.marker x.2.own ∙ entity_mapped mapping (id_of d.marker) f (ap mapping e ∙ m))
      mention f q m d h (inr k) =
          let x = entity_of_record es rs saved d h in
          let g = or_else d.marker in
          let by : (y : Entity) → Has (c.references (values x.0)) y → marker_of y ≡ Some (g y) = λ y u. some_of (marker_of y) d.marker (x.2.row.named y u) in
          let marks : c.mentions d.components ≡ map g (c.references (values x.0)) = ap c.mentions (x.2.row.exact g by) ∙ w.mentions_saved g (values x.0) in
          let u = from_map id_of (c.mentions d.components) q k in
          let y = from_map g (c.references (values x.0)) u.0 (subst (λ ms. Has ms u.0) marks u.1) in
          (y.0, holds x.0 y.0 x.1 y.1, r_is y.0 (g y.0) (by y.0 y.1) ∙ entity_mapped mapping (id_of (g y.0)) f (ap (λ n. mapping (id_of n)) y.2 ∙ ap mapping u.2 ∙ m))

      onto : (f : Entity) → IsAlive new.naming.people f → (y : Entity) × Has es y × (r y ≡ f)
      onto f a = let k = done.sound.full f a in
          elim (done.only k.0 f k.1) [
            | inl o ↦ absurd (none-some f (sym (empty.unmapped k.0) ∙ o))
            | inr o ↦ mention f k.0 k.1 o.0 o.1 o.2
          ]

pub one_renaming : {M I V D : Type 0} (id_of : M → I) (eq : I → I → Bool) → IsExact eq → (c : Conversion M V D) → IsFaithful c → OneRenaming id_of eq c
one_renaming id_of eq exact c w marker_of values = renames id_of eq exact c w marker_of values
