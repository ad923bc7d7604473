-- Places of a tuple, each of which may be empty.
use Rattle.std.specs.Prelude.{◌≡◌, ℕ, List, [], ◌∷◌, ◌++◌, map, Option, Some, None, option_map, refl, ◌⊎◌}
use Rattle.std.proofs.Common.{ap, sym, inl, inr, ◌∙◌}
use Rattle.std.proofs.lemmas.List.{map-append}
use Rattle.entities.specs.declared.entity.Entity.{Entity}
use Rattle.saveload.specs.Conversion.{Conversion, IsFaithful, Has, NoCause}

abbrev pub if_some : {X Y : Type 0} → (X → List Y) → Option X → List Y
if_some f None = []
if_some f (Some x) = f x

abbrev pub if_cause : {X : Type 0} → (X → List ℕ → Type 0) → Option X → List ℕ → Type 0
if_cause causes None = NoCause
if_cause causes (Some x) = causes x

abbrev pub either_cause : (List ℕ → Type 0) → (List ℕ → Type 0) → List ℕ → Type 0
either_cause causes others text = causes text ⊎ others text

-- a place of a row
abbrev pub place : {M V D : Type 0} → Conversion M V D → Conversion M (Option V) (Option D)
place c = record {
  references = if_some c.references;
  mentions = if_some c.mentions;
  saved = λ f v. option_map (c.saved f) v;
  loaded = λ g d. option_map (c.loaded g) d;
  renamed = λ r v. option_map (c.renamed r) v;
  unsaved = if_cause c.unsaved;
  unloaded = if_cause c.unloaded;
}

pub place_faithful : {M V D : Type 0} (c : Conversion M V D) → IsFaithful c → IsFaithful (place c)
place_faithful {M} {V} {D} c w = record {
  mentions_saved = told;
  loaded_saved = both;
  saved_same = same_saved;
  renamed_same = same_renamed;
  loaded_same = same;
  renamed_itself = itself;
  renamed_twice = twice;
  references_renamed = referred;
}
  where
    told : (f : Entity → M) (v : Option V) → if_some c.mentions (option_map (c.saved f) v) ≡ map f (if_some c.references v)
    told f None = refl
    told f (Some x) = w.mentions_saved f x

    both : (f : Entity → M) (g : M → Entity) (v : Option V) → option_map (c.loaded g) (option_map (c.saved f) v) ≡ option_map (c.renamed (λ x. g (f x))) v
    both f g None = refl
    both f g (Some x) = ap Some (w.loaded_saved f g x)

    same_saved : (f h : Entity → M) (v : Option V) → ((x : Entity) → Has (if_some c.references v) x → f x ≡ h x) → option_map (c.saved f) v ≡ option_map (c.saved h) v
    same_saved f h None e = refl
    same_saved f h (Some x) e = ap Some (w.saved_same f h x e)

    same_renamed : (r q : Entity → Entity) (v : Option V) → ((x : Entity) → Has (if_some c.references v) x → r x ≡ q x) → option_map (c.renamed r) v ≡ option_map (c.renamed q) v
    same_renamed r q None e = refl
    same_renamed r q (Some x) e = ap Some (w.renamed_same r q x e)

    same : (g h : M → Entity) (d : Option D) → ((m : M) → Has (if_some c.mentions d) m → g m ≡ h m) → option_map (c.loaded g) d ≡ option_map (c.loaded h) d
    same g h None e = refl
    same g h (Some x) e = ap Some (w.loaded_same g h x e)

    itself : (v : Option V) → option_map (c.renamed (λ x. x)) v ≡ v
    itself None = refl
    itself (Some x) = ap Some (w.renamed_itself x)

    twice : (r q : Entity → Entity) (v : Option V) → option_map (c.renamed q) (option_map (c.renamed r) v) ≡ option_map (c.renamed (λ x. q (r x))) v
    twice r q None = refl
    twice r q (Some x) = ap Some (w.renamed_twice r q x)

    referred : (r : Entity → Entity) (v : Option V) → if_some c.references (option_map (c.renamed r) v) ≡ map r (if_some c.references v)
    referred r None = refl
    referred r (Some x) = w.references_renamed r x

-- a first place and the rest of a row
abbrev pub both : {M V W D E : Type 0} → Conversion M V D → Conversion M W E → Conversion M (V × W) (D × E)
both a b = record {
  references = λ v. a.references v.0 ++ b.references v.1;
  mentions = λ d. a.mentions d.0 ++ b.mentions d.1;
  saved = λ f v. (a.saved f v.0, b.saved f v.1);
  loaded = λ g d. (a.loaded g d.0, b.loaded g d.1);
  renamed = λ r v. (a.renamed r v.0, b.renamed r v.1);
  unsaved = λ v. either_cause (a.unsaved v.0) (b.unsaved v.1);
  unloaded = λ d. either_cause (a.unloaded d.0) (b.unloaded d.1);
}

pub has_left : {X : Type 0} (xs ys : List X) (x : X) → Has xs x → Has (xs ++ ys) x
has_left [] ys x h = absurd h
has_left (z ∷ xs) ys x (inl e) = inl e
has_left (z ∷ xs) ys x (inr h) = inr (has_left xs ys x h)

pub has_right : {X : Type 0} (xs ys : List X) (x : X) → Has ys x → Has (xs ++ ys) x
has_right [] ys x h = h
has_right (z ∷ xs) ys x h = inr (has_right xs ys x h)

pub has_either : {X : Type 0} (xs ys : List X) (x : X) → Has (xs ++ ys) x → Has xs x ⊎ Has ys x
has_either [] ys x h = inr h
has_either (z ∷ xs) ys x (inl e) = inl (inl e)
has_either (z ∷ xs) ys x (inr h) = elim (has_either xs ys x h) [ inl l ↦ inl (inr l) | inr r ↦ inr r ]

pub both_faithful : {M V W D E : Type 0} (a : Conversion M V D) (b : Conversion M W E) → IsFaithful a → IsFaithful b → IsFaithful (both a b)
both_faithful {M} {V} {W} {D} {E} a b u w = record {
  mentions_saved = λ f v. rw (u.mentions_saved f v.0, w.mentions_saved f v.1) (sym (map-append f (a.references v.0) (b.references v.1)));
  loaded_saved = λ f g v. rw (u.loaded_saved f g v.0, w.loaded_saved f g v.1) refl;
  saved_same = λ f h v e. rw (u.saved_same f h v.0 (λ q k. e q (has_left _ (b.references v.1) q k)), w.saved_same f h v.1 (λ q k. e q (has_right (a.references v.0) _ q k))) refl;
  renamed_same = λ r q v e. rw (u.renamed_same r q v.0 (λ x k. e x (has_left _ (b.references v.1) x k)), w.renamed_same r q v.1 (λ x k. e x (has_right (a.references v.0) _ x k))) refl;
  loaded_same = λ g h d e. rw (u.loaded_same g h d.0 (λ q k. e q (has_left _ (b.mentions d.1) q k)), w.loaded_same g h d.1 (λ q k. e q (has_right (a.mentions d.0) _ q k))) refl;
  renamed_itself = λ v. rw (u.renamed_itself v.0, w.renamed_itself v.1) refl;
  renamed_twice = λ r q v. rw (u.renamed_twice r q v.0, w.renamed_twice r q v.1) refl;
  references_renamed = λ r v. rw (u.references_renamed r v.0, w.references_renamed r v.1) (sym (map-append r (a.references v.0) (b.references v.1)));
}

-- a row of one place
abbrev pub alone : {M V D : Type 0} → Conversion M V D → Conversion M (record { 0 : V }) (record { 0 : D })
alone c = record {
  references = λ v. c.references v.0;
  mentions = λ d. c.mentions d.0;
  saved = λ f v. record { 0 = c.saved f v.0 };
  loaded = λ g d. record { 0 = c.loaded g d.0 };
  renamed = λ r v. record { 0 = c.renamed r v.0 };
  unsaved = λ v. c.unsaved v.0;
  unloaded = λ d. c.unloaded d.0;
}

pub alone_faithful : {M V D : Type 0} (c : Conversion M V D) → IsFaithful c → IsFaithful (alone c)
alone_faithful c w = record {
  mentions_saved = λ f v. w.mentions_saved f v.0;
  loaded_saved = λ f g v. rw (w.loaded_saved f g v.0) refl;
  saved_same = λ f h v e. rw (w.saved_same f h v.0 e) refl;
  renamed_same = λ r q v e. rw (w.renamed_same r q v.0 e) refl;
  loaded_same = λ g h d e. rw (w.loaded_same g h d.0 e) refl;
  renamed_itself = λ v. rw (w.renamed_itself v.0) refl;
  renamed_twice = λ r q v. rw (w.renamed_twice r q v.0) refl;
  references_renamed = λ r v. w.references_renamed r v.0;
}

-- a flat tuple is a record of its own, not a pair of pairs
pub record Shape (F N : Type 0) : Type 0 where
  pub nest : F → N
  pub flat : N → F
  pub flat_nest : (x : F) → flat (nest x) ≡ x
  pub nest_flat : (y : N) → nest (flat y) ≡ y

-- the conversion of flat tuples, by that of nested pairs
abbrev pub along : {M V W D E : Type 0} → Shape W V → Shape E D → Conversion M V D → Conversion M W E
along s t c = record {
  references = λ v. c.references (s.nest v);
  mentions = λ d. c.mentions (t.nest d);
  saved = λ f v. t.flat (c.saved f (s.nest v));
  loaded = λ g d. s.flat (c.loaded g (t.nest d));
  renamed = λ r v. s.flat (c.renamed r (s.nest v));
  unsaved = λ v. c.unsaved (s.nest v);
  unloaded = λ d. c.unloaded (t.nest d);
}

pub along_faithful : {M V W D E : Type 0} (s : Shape W V) (t : Shape E D) (c : Conversion M V D) → IsFaithful c → IsFaithful (along s t c)
along_faithful s t c w = record {
  mentions_saved = λ f v. ap c.mentions (t.nest_flat _) ∙ w.mentions_saved f (s.nest v);
  loaded_saved = λ f g v. ap s.flat (ap (c.loaded g) (t.nest_flat _) ∙ w.loaded_saved f g (s.nest v));
  saved_same = λ f h v e. ap t.flat (w.saved_same f h (s.nest v) e);
  renamed_same = λ r q v e. ap s.flat (w.renamed_same r q (s.nest v) e);
  loaded_same = λ g h d e. ap s.flat (w.loaded_same g h (t.nest d) e);
  renamed_itself = λ v. ap s.flat (w.renamed_itself (s.nest v)) ∙ s.flat_nest v;
  renamed_twice = λ r q v. ap (λ y. s.flat (c.renamed q y)) (s.nest_flat _) ∙ ap s.flat (w.renamed_twice r q (s.nest v));
  references_renamed = λ r v. ap c.references (s.nest_flat _) ∙ w.references_renamed r (s.nest v);
}
