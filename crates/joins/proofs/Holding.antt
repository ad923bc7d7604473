-- On the map that a change set holds.
use Rattle.std.proofs.Common.{◌≡◌, ℕ, Bool, true, false, nat_eq, cond, List, [], ◌∷◌, ◌++◌, refl, ap, sym, ◌∙◌, subst, Some, None, is_some, is_ok, Result, Err, ◌⊎◌, inl, arith}
use Rattle.std.proofs.Math.Path.{fun_ext}
use Rattle.std.specs.Prelude.{Option, IsSome, IsOk, is_none, option_map}
use Rattle.storages.specs.Meaning.{HasRoom}
use Rattle.std.proofs.lemmas.Bool.{false≢true}
use Rattle.std.proofs.lemmas.Bool.Decides.{nat_tests}
use Rattle.entities.specs.declared.entity.Entity.{Entity}
use Rattle.entities.specs.Population.{index_of}
use Rattle.storages.specs.Finds.{get-insert}
use Rattle.joins.specs.Changes.{with_change, all_changed, joined, of_value, value_at}
use Rattle.std.specs.Ordering.{nat_cmp, eq_by_cmp}
use Rattle.std.specs.Cmp.{nat_cmp_total}
use Rattle.std.specs.FinMap as map
use Rattle.joins.specs.declared.change_set.Change.{Change}
use Rattle.joins.specs.Held.{held, value_of, entries_of}

chosen : {A B : Type 0} (f : A → B) (b : Bool) (x : A) (o : Option A) → cond b (Some (f x)) (option_map f o) ≡ option_map f (cond b (Some x) o)
chosen f true x o = refl
chosen f false x o = refl

find_entries : {T : Type 0} (es : List (ℕ × Change T)) (q : ℕ) → map.find nat_cmp q (entries_of es) ≡ option_map value_of (map.find nat_cmp q es)
find_entries [] q = refl
find_entries (e ∷ es) q = ap (cond (eq_by_cmp nat_cmp q e.0) (Some e.1.value)) (find_entries es q) ∙ chosen value_of (eq_by_cmp nat_cmp q e.0) e.1 (map.find nat_cmp q es)

module _ {T : Type 0} where
  pub get-held : (m : map.FinMap nat_cmp (Change T)) (q : ℕ) → map.get (held m) q ≡ option_map value_of (map.get m q)
  get-held m q = map.get-from_entries nat_cmp_total (entries_of (map.entries m)) q ∙ find_entries (map.entries m) q ∙ ap (option_map value_of) (sym (map.get-entries m q))

  pub same_presence : (o : Option (Change T)) → is_some (option_map value_of o) ≡ is_some o
  same_presence None = refl
  same_presence (Some c) = refl

  pub contains-held : (m : map.FinMap nat_cmp (Change T)) (q : ℕ) → map.contains_key (held m) q ≡ map.contains_key m q
  contains-held m q = ap is_some (get-held m q) ∙ same_presence (map.get m q)

  pub held-insert : (m : map.FinMap nat_cmp (Change T)) (k : ℕ) (c : Change T) → held (map.insert m k c) ≡ map.insert (held m) k c.value
  held-insert m k c = map.same_map nat_cmp_total map.nat_cmp-IsAntisymmetric _ _ (λ q.
      get-held (map.insert m k c) q ∙ ap (option_map value_of) (map.get-insert nat_cmp_total m k c q)
      ∙ sym (chosen value_of (eq_by_cmp nat_cmp q k) c (map.get m q))
      ∙ sym (map.get-insert nat_cmp_total (held m) k c.value q ∙ ap (cond (eq_by_cmp nat_cmp q k) (Some c.value)) (get-held m q)))

  pub held-empty : held (map.empty {X = Change T} {R = nat_cmp}) ≡ map.empty
  held-empty = map.same_map nat_cmp_total map.nat_cmp-IsAntisymmetric _ _ (λ q. get-held map.empty q ∙ ap (option_map value_of) (map.get-empty nat_cmp q) ∙ sym (map.get-empty nat_cmp q))

same_id : (a b : ℕ) → nat_eq a b ≡ true → b ≡ a
same_id a b e = grind (arith, nat_tests)

pick : {A : Type 0} (b : Bool) (x : A) (o : Option A) → (b ≡ true → o ≡ Some x) → cond b (Some x) o ≡ o
pick true x o h = sym (h refl)
pick false x o h = refl

none_of : {A : Type 0} (o : Option A) → is_some o ≡ false → o ≡ None
none_of None e = refl
none_of (Some x) e = absurd (false≢true (sym e))

-- what is lent where no event needs room is refused only where there is nothing
pub none_where_refused : {A E : Type 0} (r : Result A E) (e : E) (o : Option ℕ) {X : Type 0} (x : Option X) → r ≡ Err e → is_some o ≡ false → (IsSome x → HasRoom o 1 → IsOk r) → x ≡ None
none_where_refused r e None None at free h = refl
none_where_refused r e None (Some x) at free h = absurd (false≢true (ap is_ok (sym at) ∙ h refl tt))
none_where_refused r e (Some k) x at free h = absurd (false≢true (sym free))

-- a borrow that ends as one of two equal functions says
pub ends_alike : {N A B C : Type 0} (n : N) (f h : A → B) → ((x : A) → f x ≡ h x) → ◌≡◌ {A = ◌⊎◌ (N × (A → B)) C} (inl (n, f)) (inl (n, h))
ends_alike n f h e = ap (λ (k : _ → _). inl (n, k)) (fun_ext e)

-- what has just what another has
pub same_at : {A : Type 0} (o a : Option A) → (IsSome o → a ≡ o) → (o ≡ None → is_none a ≡ true) → a ≡ o
same_at None None p q = refl
same_at None (Some x) p q = absurd (false≢true (q refl))
same_at (Some y) a p q = p refl

module _ {T : Type 0} where
  -- a value put where it is already
  put_again : (m : map.FinMap nat_cmp (Change T)) (id : ℕ) (c : Change T) → map.get m id ≡ Some c → map.insert m id c ≡ m
  put_again m id c g = map.same_map nat_cmp_total map.nat_cmp-IsAntisymmetric _ _ (λ q. get-insert m id c q ∙ pick (nat_eq id q) c (map.get m q) (λ e. ap (map.get m) (same_id id q e) ∙ g))

module _ {T : Type 0} (m : map.FinMap nat_cmp (Change T)) (s : map.FinMap nat_cmp T) (id : ℕ) (h : held m ≡ s) where
  pub value_here : (c : Change T) → map.get m id ≡ Some c → map.get s id ≡ Some c.value
  value_here c g = ap (λ (k : map.FinMap nat_cmp T). map.get k id) (sym h) ∙ get-held m id ∙ ap (option_map value_of) g

  pub present_here : IsSome (map.get s id) → IsSome (map.get m id)
  present_here p = sym (contains-held m id) ∙ ap (λ (k : map.FinMap nat_cmp T). map.contains_key k id) h ∙ p

  pub present_there : IsSome (map.get m id) → IsSome (map.get s id)
  present_there p = ap (λ (k : map.FinMap nat_cmp T). map.contains_key k id) (sym h) ∙ contains-held m id ∙ p

  pub absent_there : map.contains_key m id ≡ false → map.get s id ≡ None
  absent_there p = none_of _ (ap (λ (k : map.FinMap nat_cmp T). map.contains_key k id) (sym h) ∙ contains-held m id ∙ p)

  pub where_here : (P : T → Type 0) (c : Change T) → map.get m id ≡ Some c → P c.value → value_at s id P
  where_here P c g p = subst (of_value P) (sym (value_here c g)) p

  -- a value took another in
  pub combined_there : (f : T → T → T) (n : map.FinMap nat_cmp (Change T)) (c d : Change T) (x : T) → n ≡ map.insert m id d → map.get m id ≡ Some c → d.value ≡ f c.value x → held n ≡ with_change f s id x
  combined_there f n c d x e g v =
      ap (held {T = T}) e ∙ held-insert m id d ∙ ap (λ (k : map.FinMap nat_cmp T). map.insert k id d.value) h ∙ ap (map.insert s id) v ∙ ap (λ o. map.insert s id (joined f o x)) (sym (value_here c g))

  -- a value was written where there was one
  pub put_there : (n : map.FinMap nat_cmp (Change T)) (x : T) → n ≡ map.insert m id (record { value = x }) → held n ≡ map.insert s id x
  put_there n x e = ap (held {T = T}) e ∙ held-insert m id (record { value = x }) ∙ ap (λ (k : map.FinMap nat_cmp T). map.insert k id x) h

  -- a value refused, and is as it was
  pub kept_there : (n : map.FinMap nat_cmp (Change T)) (c d : Change T) → n ≡ map.insert m id d → map.get m id ≡ Some c → d.value ≡ c.value → held n ≡ s
  kept_there n c d e g v =
      ap (held {T = T}) e ∙ held-insert m id d ∙ ap (map.insert (held m) id) v ∙ sym (held-insert m id c) ∙ ap (held {T = T}) (put_again m id c g) ∙ h

  -- a first value
  pub first_there : (f : T → T → T) (n : map.FinMap nat_cmp (Change T)) (d : Change T) (x : T) → n ≡ map.insert m id d → d.value ≡ x → map.contains_key m id ≡ false → held n ≡ with_change f s id x
  first_there f n d x e v none =
      ap (held {T = T}) e ∙ held-insert m id d ∙ ap (λ (k : map.FinMap nat_cmp T). map.insert k id d.value) h ∙ ap (map.insert s id) v ∙ ap (λ o. map.insert s id (joined f o x)) (sym (absent_there none))

pub moved : {A : Type 0} (xs : List A) (e : A) (ys : List A) → (xs ++ e ∷ []) ++ ys ≡ xs ++ e ∷ ys
moved [] e ys = refl
moved (x ∷ xs) e ys = ap (λ zs. x ∷ zs) (moved xs e ys)

pub none_left : {A : Type 0} (xs : List A) → xs ++ [] ≡ xs
none_left [] = refl
none_left (x ∷ xs) = ap (λ zs. x ∷ zs) (none_left xs)

-- one value more
pub all_changed_more : {T : Type 0} (f : T → T → T) (xs : List (Entity × T)) (e : Entity × T) (m : map.FinMap nat_cmp T) → all_changed f (xs ++ e ∷ []) m ≡ with_change f (all_changed f xs m) (index_of e.0) e.1
all_changed_more f [] e m = refl
all_changed_more f (x ∷ xs) e m = all_changed_more f xs e (with_change f m (index_of x.0) x.1)
