-- One key of an index for another.
use Rattle.std.proofs.Common.{◌≡◌, ◌<◌, ℕ, Bool, true, false, cond, List, refl, ap, sym, ◌∙◌, subst, Option, Some, None, inl, inr}
use Rattle.std.specs.List.Sorted.{IsStrictlyIncreasing}
use Rattle.std.specs.Ordering.{is_eq}
use Rattle.std.specs.declared.cmp.Ordering.{Ordering}
use Rattle.std.specs.declared.cmp.Ordering.TheVariants.{Equal}
use Rattle.std.specs.Cmp.{IsTotalOrder, Equal-is}
use Rattle.std.proofs.lemmas.Bool.{true≢false, false_from_ne_true, cases_eq}
use Rattle.std.proofs.lemmas.Cmp.{tied_back}
use Rattle.hibits.specs.declared.limits.TheConstants.{INDEX_LIMIT}
use Rattle.hibits.specs.Left.{left, left-ascends}
use Rattle.key_index.specs.Indices.{with_index, without_index}
use Rattle.key_index.specs.Keys.{is_key, same_key}
use Rattle.key_index.proofs.Passing.{left-put, left-cut, left-within}

module _ {Q : Type 0} {cmp : Q → Q → Ordering} (o : IsTotalOrder cmp) where
  -- equal keys are asked for alike
  pub asked_alike : (a b : Option Q) → same_key cmp a b ≡ true → (q : Q) → is_key cmp q b ≡ is_key cmp q a
  asked_alike None None e q = refl
  asked_alike None (Some b) e q = cc
  asked_alike (Some a) None e q = cc
  asked_alike (Some a) (Some b) e q = ap is_eq (sym (o.congr a b q ((Equal-is (cmp a b)).0 e)))

  -- unequal ones are not both asked for
  pub asked_apart : (a b : Option Q) → same_key cmp a b ≡ false → (q : Q) → is_key cmp q b ≡ true → is_key cmp q a ≡ false
  asked_apart None b e q has = refl
  asked_apart (Some a) None e q has = cc
  asked_apart (Some a) (Some b) e q has =
      false_from_ne_true (is_eq (cmp a q)) (λ at.
      let back = tied_back o b q ((Equal-is (cmp b q)).0 has) in
      let is : cmp a b ≡ Equal = o.congr a q b ((Equal-is (cmp a q)).0 at) ∙ back in
      true≢false (sym (ap is_eq is) ∙ e))

  -- the list of one key, where the index had an equal key
  pub stays : (a b : Option Q) → same_key cmp a b ≡ true → (id : ℕ) (q : Q) (p p' : ℕ → Bool) → p id ≡ is_key cmp q a → p' id ≡ is_key cmp q b → ((j : ℕ) → (j ≡ id → ⊥) → p' j ≡ p j) → left p 0 ≡ left p' 0
  stays a b e id q p p' was is others = sym (left-within p p' (λ j _. each j))
    where
      each : (j : ℕ) → p' j ≡ p j
      each j = elim (cases_eq j id) [
        | inl same ↦ ap p' same ∙ is ∙ asked_alike a b e q ∙ sym was ∙ ap p (sym same)
        | inr other ↦ others j other
      ]

  -- and where it had another
  pub moves : (a b : Option Q) → same_key cmp a b ≡ false → (id : ℕ) → id < INDEX_LIMIT → (q : Q) (p p' : ℕ → Bool) → p id ≡ is_key cmp q a → p' id ≡ is_key cmp q b → ((j : ℕ) → (j ≡ id → ⊥) → p' j ≡ p j)
      → (xs ys zs : List ℕ) → xs ≡ left p 0 → (IsStrictlyIncreasing xs → ys ≡ cond (is_key cmp q b) (with_index id xs) xs) → (IsStrictlyIncreasing ys → zs ≡ cond (is_key cmp q a) (without_index id ys) ys) → zs ≡ left p' 0
  moves a b e id lt q p p' was is others xs ys zs listed put cut =
      let up : IsStrictlyIncreasing xs = subst (λ (l : List ℕ). IsStrictlyIncreasing l) (sym listed) (left-ascends p 0) in
      elim (is_key cmp q b) as (λ v. is_key cmp q b ≡ v → ys ≡ cond v (with_index id xs) xs → zs ≡ left p' 0) [
        | true ↦ λ has there.
            let ys-is : ys ≡ left p' 0 = there ∙ ap (with_index id) listed ∙ sym (left-put p p' id lt (is ∙ has) others) in
            let up' : IsStrictlyIncreasing ys = subst (λ (l : List ℕ). IsStrictlyIncreasing l) (sym ys-is) (left-ascends p' 0) in
            cut up' ∙ ap (λ (v : Bool). cond v (without_index id ys) ys) (asked_apart a b e q has) ∙ ys-is
        | false ↦ λ has there.
            let ys-is : ys ≡ left p 0 = there ∙ listed in
            let up' : IsStrictlyIncreasing ys = subst (λ (l : List ℕ). IsStrictlyIncreasing l) (sym ys-is) (left-ascends p 0) in
            cut up' ∙ ap (λ (l : List ℕ). cond (is_key cmp q a) (without_index id l) l) ys-is ∙ sym (left-cut_if p p' id (is_key cmp q a) was (is ∙ has) others)
      ] refl (put up)
    where
      left-cut_if : (p p' : ℕ → Bool) (id : ℕ) (v : Bool) → p id ≡ v → p' id ≡ false → ((j : ℕ) → (j ≡ id → ⊥) → p' j ≡ p j) → left p' 0 ≡ cond v (without_index id (left p 0)) (left p 0)
      left-cut_if p p' id true was is others = left-cut p p' id is others
      left-cut_if p p' id false was is others =
          left-within p p' (λ j _. elim (cases_eq j id) [
            | inl same ↦ ap p' same ∙ is ∙ sym was ∙ ap p (sym same)
            | inr other ↦ others j other
          ])
