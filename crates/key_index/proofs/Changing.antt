-- What a change of one list makes of the list of each key.
use Rattle.std.proofs.Common.{◌≡◌, ℕ, Bool, true, false, cond, List, refl, ap, sym, ◌∙◌, subst, Option, Some, Vec}
use Rattle.std.specs.List.Sorted.{IsStrictlyIncreasing}
use Rattle.std.specs.Ordering.{is_eq}
use Rattle.std.specs.declared.cmp.Ordering.{Ordering}
use Rattle.std.specs.Cmp.{IsTotalOrder, Equal-is}
use Rattle.std.specs.BTreeMap.{BTreeMap, get, is_at}
use Rattle.std.specs.Map.{lookup}
use mathlib.Core.Path.{fun_ext}
use Rattle.key_index.specs.Keys.{is_key, items_of, list_at}

module _ {Q : Type 0} {cmp : Q → Q → Ordering} (o : IsTotalOrder cmp) where
  -- equal keys find the same
  pub alike : {X : Type 0} (m : BTreeMap Q X) (k q : Q) → is_eq (cmp k q) ≡ true → get cmp m q ≡ get cmp m k
  alike m k q e = ap (λ (test : Q → Bool). lookup test m.entries) (fun_ext (λ x. ap is_eq (sym (o.congr k q x ((Equal-is (cmp k q)).0 e)))))

  -- the list of one key is another, if a search for it changed that
  pub changed : {Z : Type 0} (m m' : BTreeMap Q (Vec ℕ Z)) (sought key : Q) (was : Option (Vec ℕ Z)) (new : Vec ℕ Z) (f : List ℕ → List ℕ) → sought ≡ key
      → ((q : Q) → get cmp m' q ≡ cond (is_at (cmp sought) q) (Some new) (get cmp m q)) → get cmp m sought ≡ was
      → (IsStrictlyIncreasing (items_of was) → new.items ≡ f (items_of was))
      → (q : Q) → IsStrictlyIncreasing (list_at cmp m q) → list_at cmp m' q ≡ cond (is_key cmp q (Some key)) (f (list_at cmp m q)) (list_at cmp m q)
  changed m m' sought key was new f same each there is q up =
      let at = subst (λ (k : Q). get cmp m k ≡ was) same there in
      let here = λ (e : is_eq (cmp key q) ≡ true). ap items_of (alike m key q e ∙ at) in
      ap items_of (subst (λ (k : Q). get cmp m' q ≡ cond (is_at (cmp k) q) (Some new) (get cmp m q)) same (each q))
      ∙ elim (is_eq (cmp key q)) as (λ b. is_eq (cmp key q) ≡ b → items_of (cond b (Some new) (get cmp m q)) ≡ cond b (f (list_at cmp m q)) (list_at cmp m q)) [
        | true ↦ λ e. (let up' : IsStrictlyIncreasing (items_of was) = subst (λ (xs : List ℕ). IsStrictlyIncreasing xs) (here e) up in is up' ∙ ap f (sym (here e)))
        | false ↦ λ e. refl
      ] refl

  -- the list of one key is what it was
  pub unchanged : {Z : Type 0} (m m' : BTreeMap Q (Vec ℕ Z)) (key : Q) (was new : Vec ℕ Z)
      → ((q : Q) → get cmp m' q ≡ cond (is_at (cmp key) q) (Some new) (get cmp m q)) → get cmp m key ≡ Some was
      → new.items ≡ was.items → (q : Q) → list_at cmp m' q ≡ list_at cmp m q
  unchanged m m' key was new each there is q =
      ap items_of (each q)
      ∙ elim (is_eq (cmp key q)) as (λ b. is_eq (cmp key q) ≡ b → items_of (cond b (Some new) (get cmp m q)) ≡ list_at cmp m q) [
        | true ↦ λ e. is ∙ sym (ap items_of (alike m key q e ∙ there))
        | false ↦ λ e. refl
      ] refl
