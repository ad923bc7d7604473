-- The list that a recursive save saves, step by step.
use Rattle.std.proofs.Common.{◌≡◌, ℕ, ◌+◌, ◌<◌, ◌≤◌, length, get_or, take, List, [], ◌∷◌, ◌++◌, refl, subst, sym, ap, ◌∙◌, inl, inr, Bool, true, false, arith, cond, is_some, Some, None, append-nil, nat_eq, below_more}
use Rattle.std.specs.Prelude.{◌||◌, Option}
use Rattle.std.specs.List.{flat_map}
use Rattle.std.proofs.lemmas.List.{take_more, take-append-le, append_assoc}
use Rattle.std.proofs.lemmas.List.Folds.{list_any-append}
use Rattle.std.proofs.lemmas.Grind.{flat_map-append}
use Rattle.std.specs.FinMap as map
use Rattle.std.specs.Ordering.{nat_cmp}
use Rattle.std.proofs.lemmas.Bool.{false≢true, cases_eq, ne_eqb}
use Rattle.saveload.proofs.Ids.{get-insert}
use Rattle.entities.specs.declared.entity.Entity.{Entity}
use Rattle.entities.specs.Population.{index_of}
use Rattle.entities.specs.Deaths.{has_index}
use Rattle.storages.specs.Slot.{Slot}
use Rattle.saveload.specs.Closing.{one_more, add_new, new_in, marked_in, HasMarked}

pub add_new-append : (m : ℕ → Bool) (a xs ys : List Entity) → add_new m a (xs ++ ys) ≡ add_new m (add_new m a xs) ys
add_new-append m a [] ys = refl
add_new-append m a (x ∷ xs) ys = add_new-append m (one_more m a x) xs ys

or_assoc : (a b c : Bool) → ((a || b) || c) ≡ (a || (b || c))
or_assoc true b c = refl
or_assoc false b c = refl

one_more-split : (b : Bool) (x y : List Entity) (e : Entity) → x ++ cond b y (y ++ e ∷ []) ≡ cond b (x ++ y) ((x ++ y) ++ e ∷ [])
one_more-split true x y e = refl
one_more-split false x y e = sym (append_assoc x y (e ∷ []))

-- marks that were added count as those that were there
pub add_new-split : (m n : ℕ → Bool) (a b xs : List Entity) → ((j : ℕ) → n j ≡ (m j || has_index a j)) → a ++ add_new n b xs ≡ add_new m (a ++ b) xs
add_new-split m n a b [] w = refl
add_new-split m n a b (x ∷ xs) w = add_new-split m n a (one_more n b x) xs w ∙ ap (λ l. add_new m l xs) same
  where
    test : (n (index_of x) || has_index b (index_of x)) ≡ (m (index_of x) || has_index (a ++ b) (index_of x))
    test = ap (λ t. t || has_index b (index_of x)) (w (index_of x)) ∙ or_assoc (m (index_of x)) (has_index a (index_of x)) (has_index b (index_of x)) ∙ ap (λ t. m (index_of x) || t) (sym (list_any-append (λ e. _) a b))

    same : a ++ one_more n b x ≡ one_more m (a ++ b) x
    same = one_more-split (n (index_of x) || has_index b (index_of x)) a b x ∙ ap (λ t. cond t (a ++ b) ((a ++ b) ++ x ∷ [])) test

module _ {M : Type 0} where
  pub marked_none : (s : Slot M) → HasMarked s s []
  marked_none s = record { marks = λ j. sym (or_false (marked_in s j)); kept = λ j h. refl }
    where
      or_false : (b : Bool) → (b || false) ≡ b
      or_false true = refl
      or_false false = refl

  pub marked_both : (s s' s'' : Slot M) (a b : List Entity) → HasMarked s s' a → HasMarked s' s'' b → HasMarked s s'' (a ++ b)
  marked_both s s' s'' a b p q = record {
    marks = λ j. q.marks j ∙ ap (λ t. t || has_index b j) (p.marks j) ∙ or_assoc (marked_in s j) (has_index a j) (has_index b j) ∙ ap (λ t. marked_in s j || t) (sym (list_any-append (λ e. _) a b));
    kept = λ j h. q.kept j (p.marks j ∙ ap (λ t. t || has_index a j) h) ∙ p.kept j h;
  }

-- one list more
pub new_more : {M : Type 0} (s s' : Slot M) (start xs ys es : List Entity) → HasMarked s s' (new_in (marked_in s) xs) → es ≡ start ++ new_in (marked_in s) xs → es ++ new_in (marked_in s') ys ≡ start ++ new_in (marked_in s) (xs ++ ys)
new_more s s' start xs ys es h e =
    ap (λ l. l ++ new_in (marked_in s') ys) e
    ∙ append_assoc start (new_in (marked_in s) xs) (new_in (marked_in s') ys)
    ∙ ap (λ l. start ++ l) (add_new-split (marked_in s) (marked_in s') (new_in (marked_in s) xs) [] ys h.marks ∙ ap (λ l. add_new (marked_in s) l ys) (append-nil _) ∙ sym (add_new-append (marked_in s) [] xs ys))

pub marks_more : {M : Type 0} (s s' s'' : Slot M) (xs ys : List Entity) → HasMarked s s' (new_in (marked_in s) xs) → HasMarked s' s'' (new_in (marked_in s') ys) → HasMarked s s'' (new_in (marked_in s) (xs ++ ys))
marks_more s s' s'' xs ys p q = subst (HasMarked s s'') (new_more s s' [] xs ys (new_in (marked_in s) xs) p refl) (marked_both s s' s'' _ _ p q)

pub found_none : {X : Type 0} (a : Bool) (o : Option X) → true ≡ a → cond a o None ≡ None → is_some o ≡ false
found_none true o h e = ap is_some e
found_none false o h e = absurd (false≢true (sym h))

pub found_some : {X : Type 0} (a : Bool) (o : Option X) → is_some (cond a o None) ≡ true → is_some o ≡ true
found_some true o e = e
found_some false o e = absurd (false≢true e)

pub new_one : (m : ℕ → Bool) (e : Entity) → m (index_of e) ≡ false → new_in m (e ∷ []) ≡ e ∷ []
new_one m e off = ap (λ b. cond (b || false) [] (e ∷ [])) off

pub new_none : (m : ℕ → Bool) (e : Entity) → m (index_of e) ≡ true → new_in m (e ∷ []) ≡ []
new_none m e on = ap (λ b. cond (b || false) [] (e ∷ [])) on

module _ {M : Type 0} where
  at_marks : (b c : Bool) (x : M) (o : Option M) → is_some (cond b (Some x) o) ≡ (is_some o || (b || false))
  at_marks true c x o = sym (or_true (is_some o))
    where
      or_true : (b : Bool) → (b || true) ≡ true
      or_true true = refl
      or_true false = refl
  at_marks false c x o = sym (or_false (is_some o))
    where
      or_false : (b : Bool) → (b || false) ≡ b
      or_false true = refl
      or_false false = refl

  pub marked_one : (s s' : Slot M) (e : Entity) (x : M) → s'.map ≡ map.insert s.map (index_of e) x → marked_in s (index_of e) ≡ false → HasMarked s s' (e ∷ [])
  marked_one s s' e x i off = record {
    marks = λ j. ap (λ (m : map.FinMap nat_cmp M). is_some (map.get m j)) i ∙ ap is_some (get-insert s.map (index_of e) x j) ∙ at_marks (nat_eq (index_of e) j) true x (map.get s.map j);
    kept = λ j h. ap (λ (m : map.FinMap nat_cmp M). map.get m j) i ∙ get-insert s.map (index_of e) x j ∙ elim (cases_eq (index_of e) j) [
      | inl same ↦ absurd (false≢true (sym off ∙ ap (marked_in s) same ∙ h))
      | inr d ↦ rw (ne_eqb (index_of e) j d) refl
    ];
  }

module _ {M : Type 0} where
  pub closed_step : (s s' s'' : Slot M) (f : Entity → List Entity) (start es es' : List Entity) (i : ℕ) (d : Entity) (xs : List Entity) → i < length es → xs ≡ f (get_or es i d)
      → es ≡ start ++ new_in (marked_in s) (flat_map f (take i es)) → HasMarked s s' (new_in (marked_in s) (flat_map f (take i es)))
      → es' ≡ es ++ new_in (marked_in s') xs → HasMarked s' s'' (new_in (marked_in s') xs)
      → ((j : ℕ) → j < i → j < length (start ++ new_in (marked_in s) (flat_map f (take j es))))
      → (es' ≡ start ++ new_in (marked_in s) (flat_map f (take (i + 1) es'))) × HasMarked s s'' (new_in (marked_in s) (flat_map f (take (i + 1) es')))
      × ((j : ℕ) → j < i + 1 → j < length (start ++ new_in (marked_in s) (flat_map f (take j es'))))
  closed_step s s' s'' f start es es' i d xs lt is e h e' h' before = (
    e' ∙ new_more s s' start (flat_map f (take i es)) xs es h e ∙ ap (λ l. start ++ new_in (marked_in s) l) (sym all),
    subst (λ l. HasMarked s s'' (new_in (marked_in s) l)) (sym all) (marks_more s s' s'' (flat_map f (take i es)) xs h h'),
    below_more (λ j. j < length (start ++ new_in (marked_in s) (flat_map f (take j es')))) i
        (λ j l. let le : j ≤ length es = omega (arith, l, lt) in subst (λ ys. j < length (start ++ new_in (marked_in s) (flat_map f ys))) (sym (same j le)) (before j l))
        (let le : i ≤ length es = omega (arith, lt) in subst (λ ys. i < length (start ++ new_in (marked_in s) (flat_map f ys))) (sym (same i le)) (subst (λ ys. i < length ys) e lt)),
  )
    where
      same : (j : ℕ) → j ≤ length es → take j es' ≡ take j es
      same j le = ap (take j) e' ∙ take-append-le j es _ le

      le1 : i + 1 ≤ length es
      le1 = omega (arith, lt)

      seen : take (i + 1) es' ≡ take i es ++ get_or es i d ∷ []
      seen = same (i + 1) le1 ∙ take_more es i d lt

      all : flat_map f (take (i + 1) es') ≡ flat_map f (take i es) ++ xs
      all = ap (flat_map f) seen ∙ flat_map-append f (take i es) (get_or es i d ∷ []) ∙ ap (λ l. flat_map f (take i es) ++ l) (append-nil (f (get_or es i d)) ∙ sym is)
