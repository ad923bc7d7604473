-- Calls of a closure at each index of a list, which write to the values of a change set.
use Rattle.std.proofs.Common.{◌≡◌, ℕ, ◌++◌, List, [], ◌∷◌, zero, refl, sym, ◌∙◌, arith, ap, subst}
use Rattle.std.specs.Prelude.{Option, option_map}
use Rattle.std.specs.List.{Contains}
use Rattle.std.specs.List.Sorted.{IsStrictlyIncreasing}
use Rattle.std.specs.FinMap as map
use Rattle.std.specs.Ordering.{nat_cmp}
use Rattle.std.specs.Borrow.{MutBor}
use Rattle.storages.specs.Finds.{got_put, got_kept}
use Rattle.storages.specs.Slot.{with_option}
use Rattle.joins.specs.Each.{each_becomes}
use Rattle.joins.specs.ChangeVisits.{ValueCalled, ValuesCalled, ValueChanged}
use Rattle.joins.proofs.CallLemmas.{contains_behind, first_or_behind, first_once, tail_ascends}

module _ {T I F : Type 0} (gives : ℕ → I → Type 0) (step : F → MutBor T → I → Unit {0} → MutBor T → F → Type 0) where
  -- one call more
  pub value_more : (is : List ℕ) (i : ℕ) (f : F) (m : map.FinMap nat_cmp T) (g : F) (n : map.FinMap nat_cmp T) (f' : F) (m' : map.FinMap nat_cmp T)
      → ValuesCalled gives step is f m g n → ValueCalled gives step i g n f' m' → ValuesCalled gives step (is ++ (i ∷ [])) f m f' m'
  value_more [] i f m g n f' m' c d =
      (f', m', subst (λ (t : map.FinMap nat_cmp T). ValueCalled gives step i f t f' m') c.1 (subst (λ (h : F). ValueCalled gives step i h n f' m') c.0 d), (refl, refl))
  value_more (j ∷ is) i f m g n f' m' c d = (c.0, c.1, c.2, value_more is i c.0 c.1 g n f' m' c.3 d)

  -- an index that is not among them keeps what it had
  pub value_kept : (is : List ℕ) (q : ℕ) (f : F) (m : map.FinMap nat_cmp T) (f' : F) (m' : map.FinMap nat_cmp T) → (Contains is q → ⊥) → ValuesCalled gives step is f m f' m' → map.get m' q ≡ map.get m q
  value_kept [] q f m f' m' other c = ap (λ (t : map.FinMap nat_cmp T). map.get t q) c.1
  value_kept (i ∷ is) q f m f' m' other c =
      value_kept is q c.0 c.1 f' m' (λ d. other (contains_behind i q is d)) c.3
      ∙ got_kept m c.1 i c.2.after_call.now q (λ e. other (zero, omega arith, sym e)) c.2.becomes

  -- one that is among them was called at once, if they ascend
  pub value_found : (is : List ℕ) (q : ℕ) (f : F) (m : map.FinMap nat_cmp T) (f' : F) (m' : map.FinMap nat_cmp T)
      → IsStrictlyIncreasing is → Contains is q → ValuesCalled gives step is f m f' m' → ValueChanged gives step m m' q
  value_found [] q f m f' m' rise d c = absurd (let lt = d.1 in omega (arith, lt))
  value_found (i ∷ is) q f m f' m' rise d c =
      first_or_behind (ValueChanged gives step m m' q) i q is d
      (λ e. subst (λ (k : ℕ). ValueChanged gives step m m' k) e (record {
        state = f;
        next = c.0;
        value = c.2.value;
        item = c.2.item;
        after_call = c.2.after_call;
        was = c.2.was;
        beside = c.2.beside;
        call = c.2.call;
        becomes = value_kept is i c.0 c.1 f' m' (λ x. first_once i is rise i x refl) c.3 ∙ got_put m c.1 i c.2.after_call.now c.2.becomes;
      }))
      (λ x. let k = value_found is q c.0 c.1 f' m' (tail_ascends i is rise) x c.3 in record {
        state = k.state;
        next = k.next;
        value = k.value;
        item = k.item;
        after_call = k.after_call;
        was = sym (got_kept m c.1 i c.2.after_call.now q (λ e. first_once i is rise q x (sym e)) c.2.becomes) ∙ k.was;
        beside = k.beside;
        call = k.call;
        becomes = k.becomes;
      })

  -- where each call leaves what a function makes of the value, the map is what the function makes of it
  pub values_become : (to : ℕ → T → T)
      → ((i : ℕ) (f g : F) (x : MutBor T) (z : I) (y : MutBor T) → gives i z → step f x z (tt {0}) y g → y.now ≡ to i x.now)
      → (is : List ℕ) (f : F) (m : map.FinMap nat_cmp T) (f' : F) (m' : map.FinMap nat_cmp T) → ValuesCalled gives step is f m f' m' → m' ≡ each_becomes to is m
  values_become to h [] f m f' m' c = c.1
  values_become to h (i ∷ is) f m f' m' c =
      let at = c.2 in
      let put : c.1 ≡ with_option m i (option_map (to i) (map.get m i)) =
      at.becomes ∙ ap (λ (v : T). map.insert m i v) (h i f c.0 at.value at.item at.after_call at.beside at.call)
      ∙ sym (ap (λ (o : Option T). with_option m i (option_map (to i) o)) at.was) in
      values_become to h is c.0 c.1 f' m' c.3 ∙ ap (each_becomes to is) put

  -- nothing is left, and the values stay
  pub values_done : (is done rest : List ℕ) (f : F) (m : map.FinMap nat_cmp T) (f' : F) (m' t : map.FinMap nat_cmp T) → is ≡ done ++ rest → rest ≡ [] → t ≡ m'
      → ValuesCalled gives step done f m f' m' → ValuesCalled gives step is f m f' t
  values_done is done rest f m f' m' t e none same c =
      subst (λ (u : map.FinMap nat_cmp T). ValuesCalled gives step is f m f' u) (sym same) (subst (λ (l : List ℕ). ValuesCalled gives step l f m f' m') (sym (e ∙ ap (λ (l : List ℕ). done ++ l) none ∙ right done)) c)
    where
      right : (l : List ℕ) → l ++ [] ≡ l
      right [] = refl
      right (x ∷ xs) = ap (λ (ys : List ℕ). x ∷ ys) (right xs)
