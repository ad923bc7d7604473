-- What replacements leave at each index.
use Rattle.std.proofs.Common.{◌≡◌, ◌≢◌, ℕ, ◌+◌, ◌-◌, ◌<◌, ◌≤◌, Bool, true, false, cond, List, [], ◌∷◌, Some, None, refl, ap, sym, ◌∙◌, arith, zero, suc, inl, inr, subst}
use Rattle.std.specs.Prelude.{Option, ◌&&◌}
use Rattle.std.specs.List.{AllZip}
use Rattle.std.specs.FinMap as map
use Rattle.std.specs.Ordering.{nat_cmp}
use Rattle.std.proofs.lemmas.Bool.{cases_eq, true≢false}
use Rattle.hibits.specs.declared.limits.TheConstants.{INDEX_LIMIT}
use Rattle.hibits.specs.Left.{passing, left}
use Rattle.storages.specs.Finds.{got_put, got_kept}
use Rattle.joins_parallel.specs.Replacing.{put_all, or_else, Updates, Remakes, UpdatedAt, RemadeAt}
use Rattle.joins.specs.Indexed.{Indexed}
use Rattle.joins.specs.Keys.{shared_indices}
use Rattle.std.specs.Borrow.{Bor}
use Rattle.storages.specs.Slot.{Slot}

module _ {T : Type 0} where
  head_kept : (p : ℕ → Bool) (a q : ℕ) (rest : List ℕ) (ys : List (Option T)) (m : map.FinMap nat_cmp T) → q ≢ a
      → ((zs : List (Option T)) (n : map.FinMap nat_cmp T) → map.get (put_all rest zs n) q ≡ map.get n q) → map.get (put_all (a ∷ rest) ys m) q ≡ map.get m q
  head_kept p a q rest [] m ne rec = refl
  head_kept p a q rest (None ∷ ys) m ne rec = rec ys m
  head_kept p a q rest (Some x ∷ ys) m ne rec = rec ys (map.insert m a x) ∙ got_kept m (map.insert m a x) a x q ne refl

  -- an index that is not among those from a on keeps what it had
  kept : (p : ℕ → Bool) (n a q : ℕ) (ys : List (Option T)) (m : map.FinMap nat_cmp T) → (p q ≡ true → q < a) → map.get (put_all (passing p a n) ys m) q ≡ map.get m q
  unfolding passing
  kept p zero a q ys m past = refl
  kept p (suc n) a q ys m past =
      elim (p a) as (λ b. p a ≡ b → map.get (put_all (cond b (a ∷ passing p (suc a) n) (passing p (suc a) n)) ys m) q ≡ map.get m q) [
        | true ↦ λ here. head_kept p a q (passing p (suc a) n) ys m (λ e. let lt = past (ap p e ∙ here) in absurd (omega (arith, lt, e))) (λ zs k. kept p n (suc a) q zs k (λ t. let lt = past t in omega (arith, lt)))
        | false ↦ λ _. kept p n (suc a) q ys m (λ t. let lt = past t in omega (arith, lt))
      ] refl

  pub elsewhere : (p : ℕ → Bool) (q : ℕ) (ys : List (Option T)) (m : map.FinMap nat_cmp T) → p q ≡ false → map.get (put_all (left p 0) ys m) q ≡ map.get m q
  unfolding left
  elsewhere p q ys m past = kept p (INDEX_LIMIT - 0) 0 q ys m (λ t. absurd (true≢false (sym t ∙ past)))

module _ {T : Type 0} (R : ℕ → Option T → Type 0) where
  abbrev Found : (ℕ → Option T → Type 0) → ℕ → List ℕ → List (Option T) → map.FinMap nat_cmp T → Type 0
  Found S q is ys m = (y : Option T) × S q y × (map.get (put_all is ys m) q ≡ or_else y (map.get m q))

  here_found : (p : ℕ → Bool) (n a : ℕ) (y : Option T) (ys : List (Option T)) (m : map.FinMap nat_cmp T) → R a y → Found R a (a ∷ passing p (suc a) n) (y ∷ ys) m
  here_found p n a None ys m r = (None, r, kept p n (suc a) a ys m (λ _. omega arith))
  here_found p n a (Some x) ys m r = (Some x, r, kept p n (suc a) a ys (map.insert m a x) (λ _. omega arith) ∙ got_put m (map.insert m a x) a x refl)

  later_found : (q a : ℕ) (rest : List ℕ) (y : Option T) (ys : List (Option T)) (m : map.FinMap nat_cmp T) → q ≢ a → ((k : map.FinMap nat_cmp T) → Found R q rest ys k) → Found R q (a ∷ rest) (y ∷ ys) m
  later_found q a rest None ys m ne rec = rec m
  later_found q a rest (Some x) ys m ne rec =
      let f = rec (map.insert m a x) in (f.0, f.1, f.2 ∙ ap (or_else f.0) (got_kept m (map.insert m a x) a x q ne refl))

  head_found : (p : ℕ → Bool) (n a q : ℕ) (ys : List (Option T)) (m : map.FinMap nat_cmp T) → AllZip R (a ∷ passing p (suc a) n) ys
      → (a ≢ q → (zs : List (Option T)) (k : map.FinMap nat_cmp T) → AllZip R (passing p (suc a) n) zs → Found R q (passing p (suc a) n) zs k) → Found R q (a ∷ passing p (suc a) n) ys m
  head_found p n a q [] m zip rec = absurd zip
  head_found p n a q (y ∷ ys) m zip rec =
      elim (cases_eq a q) [
        | inl same ↦ subst (λ k. Found R k (a ∷ passing p (suc a) n) (y ∷ ys) m) same (here_found p n a y ys m zip.0)
        | inr other ↦ later_found q a (passing p (suc a) n) y ys m (λ e. other (sym e)) (λ k. rec other ys k zip.1)
      ]

  found_from : (p : ℕ → Bool) (n a q : ℕ) (ys : List (Option T)) (m : map.FinMap nat_cmp T) → a ≤ q → q < a + n → p q ≡ true → AllZip R (passing p a n) ys → Found R q (passing p a n) ys m
  unfolding passing
  found_from p zero a q ys m ge lt is zip = absurd (omega (arith, ge, lt))
  found_from p (suc n) a q ys m ge lt is zip =
      elim (p a) as (λ b. p a ≡ b → AllZip R (cond b (a ∷ passing p (suc a) n) (passing p (suc a) n)) ys → Found R q (cond b (a ∷ passing p (suc a) n) (passing p (suc a) n)) ys m) [
        | true ↦ λ _ z. head_found p n a q ys m z (λ other zs k w. found_from p n (suc a) q zs k (omega (arith, ge, other)) (omega (arith, lt)) is w)
        | false ↦ λ past z.
            elim (cases_eq a q) [
              | inl same ↦ absurd (true≢false (sym is ∙ ap p (sym same) ∙ past))
              | inr other ↦ found_from p n (suc a) q ys m (omega (arith, ge, other)) (omega (arith, lt)) is z
            ]
      ] refl zip

  -- each of them has what was made there, or what it had
  pub found_each : (p : ℕ → Bool) (q : ℕ) (ys : List (Option T)) (m : map.FinMap nat_cmp T) → q < INDEX_LIMIT → p q ≡ true → AllZip R (left p 0) ys → Found R q (left p 0) ys m
  unfolding left
  found_each p q ys m lt is zip = found_from p (INDEX_LIMIT - 0) 0 q ys m (omega arith) (omega (arith, lt)) is zip

both : (a b : Bool) → a ≡ true → b ≡ true → (a && b) ≡ true
both true b e f = f
both false b e f = cc

past_right : (a b : Bool) → b ≡ false → (a && b) ≡ false
past_right true b e = e
past_right false b e = refl

module _ {T I : Type 0} (s s' : Slot T) (p : ℕ → Bool) (gives : ℕ → I → Type 0) where
  pub update_each : (answers : Bor T → I → Option T → Type 0) → Updates s s' (shared_indices s.map p) gives answers
      → (i : ℕ) → i < INDEX_LIMIT → map.contains_key s.map i ≡ true → p i ≡ true → UpdatedAt s s' i gives answers
  update_each answers u i lt has is =
      let f = found_each (λ k y. (x : Bor T) × (z : I) × (map.get s.map k ≡ Some x.now) × gives k z × answers x z y) (λ k. map.contains_key s.map k && p k) i u.values s.map lt (both _ _ has is) u.asked in
      record {
        component = f.1.0;
        item = f.1.1;
        value = f.0;
        was = f.1.2;
        beside = f.1.3;
        answer = f.1.4;
        becomes = ap (λ (m : map.FinMap nat_cmp T). map.get m i) u.replaces.map ∙ f.2;
      }

  pub update_others : (answers : Bor T → I → Option T → Type 0) → Updates s s' (shared_indices s.map p) gives answers → (i : ℕ) → p i ≡ false → map.get s'.map i ≡ map.get s.map i
  update_others answers u i is =
      ap (λ (m : map.FinMap nat_cmp T). map.get m i) u.replaces.map ∙ elsewhere (λ k. map.contains_key s.map k && p k) i u.values s.map (past_right _ _ is)

  pub remake_others : (answers : Indexed T → I → Option T → Type 0) → Remakes s s' (shared_indices s.map p) gives answers → (i : ℕ) → p i ≡ false → map.get s'.map i ≡ map.get s.map i
  remake_others answers u i is =
      ap (λ (m : map.FinMap nat_cmp T). map.get m i) u.replaces.map ∙ elsewhere (λ k. map.contains_key s.map k && p k) i u.values s.map (past_right _ _ is)

  of_paired : (answers : Indexed T → I → Option T → Type 0) (x : Indexed T) (i : ℕ) (z : I) (y : Option T) → x.slot ≡ s → x.index ≡ i → answers x z y → answers (record { slot = s; index = i }) z y
  of_paired answers x i z y e f h = subst (λ (k : ℕ). answers (record { slot = s; index = k }) z y) f (subst (λ (t : Slot T). answers (record { slot = t; index = x.index }) z y) e h)

  pub remake_each : (answers : Indexed T → I → Option T → Type 0) → Remakes s s' (shared_indices s.map p) gives answers
      → (i : ℕ) → i < INDEX_LIMIT → map.contains_key s.map i ≡ true → p i ≡ true → RemadeAt s s' i gives answers
  remake_each answers u i lt has is =
      let f = found_each (λ k y. (x : Indexed T) × (z : I) × (x.slot ≡ s) × (x.index ≡ k) × gives k z × answers x z y) (λ k. map.contains_key s.map k && p k) i u.values s.map lt (both _ _ has is) u.asked in
      record {
        item = f.1.1;
        value = f.0;
        beside = f.1.4;
        answer = of_paired answers f.1.0 i f.1.1 f.0 f.1.2 f.1.3 f.1.5;
        becomes = ap (λ (m : map.FinMap nat_cmp T). map.get m i) u.replaces.map ∙ f.2;
      }
