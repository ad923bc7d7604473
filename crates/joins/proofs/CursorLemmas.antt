-- Walks of cursors over storages.
use Rattle.std.proofs.Common.{◌≡◌, ℕ, Bool, ◌&&◌, true, nat_eq, arith, refl, sym, ap, subst, ◌∙◌}
use Rattle.std.proofs.Math.Path.{fun_ext}
use Rattle.std.proofs.lemmas.Bool.{lt-ltb, and_parts, false≢true}
use Rattle.std.specs.Prelude.{◌↔◌, IfNone, cond, Option, Some, None, IfSome, is_some, false, ◌||◌, Result, Ok, Err, IfErr}
use Rattle.std.specs.FinMap as map
use Rattle.std.specs.FinSet as set
use Rattle.std.specs.Ordering.{nat_cmp}
use Rattle.std.specs.Cmp.{nat_cmp_total}
use Rattle.hibits.specs.Left.{left}
use Rattle.hibits.specs.Sets.{has_part, has_part_zero}
use Rattle.hibits.specs.Views.{everywhere}
use Rattle.hibits.specs.declared.limits.TheConstants.{INDEX_LIMIT}
use Rattle.storages.specs.Finds.{get-insert}
use Rattle.std.proofs.lemmas.Bool.Decides.{nat_tests}
use Rattle.storages.specs.declared.masked.NotLent.{NotLent}
use Rattle.storages.specs.declared.masked.NotLent.TheVariants.{Absent, OutOfMemory}
use Rattle.entities.specs.Census.{Census, population}
use Rattle.entities.specs.Population.{lives}
use Rattle.joins.specs.Keys.{keys_of}
use Rattle.joins.specs.Same.{left_same}

-- ---- the keys of a map, as a set
module _ {T : Type 0} (m : map.FinMap nat_cmp T) where
  pub contains_keys : (q : ℕ) → set.contains (keys_of m) q ≡ map.contains_key m q
  contains_keys q = set.contains-from_list nat_cmp_total (map.keys m) q ∙ sym (map.contains_key-keys m q)

  -- a set of the same members is that set
  pub mask_is : (s : set.FinSet nat_cmp) → ((q : ℕ) → set.contains s q ≡ map.contains_key m q) → s ≡ keys_of m
  mask_is s e = set.same_set nat_cmp_total set.nat_cmp-IsAntisymmetric _ _ (λ q. e q ∙ sym (contains_keys q))

  -- so are those of maps of the same keys
  pub same_keys : (n : map.FinMap nat_cmp T) → ((q : ℕ) → map.contains_key n q ≡ map.contains_key m q) → keys_of n ≡ keys_of m
  same_keys n e = set.same_set nat_cmp_total set.nat_cmp-IsAntisymmetric _ _ (λ q. set.contains-from_list nat_cmp_total (map.keys n) q ∙ sym (map.contains_key-keys n q) ∙ e q ∙ sym (contains_keys q))

  -- a set's lowest layer has the keys
  pub part_is_key : (s : set.FinSet nat_cmp) → ((q : ℕ) → set.contains s q ≡ map.contains_key m q) → (q : ℕ) → has_part s 0 q ≡ map.contains_key m q
  part_is_key s e q = has_part_zero s q ∙ e q

  pub parts_are_keys : (s : set.FinSet nat_cmp) → ((q : ℕ) → set.contains s q ≡ map.contains_key m q) → has_part s 0 ≡ map.contains_key m
  parts_are_keys s e = fun_ext (part_is_key s e)

  -- maps of the same keys leave the same indices
  pub same_rest : (n : map.FinMap nat_cmp T) → ((q : ℕ) → map.contains_key n q ≡ map.contains_key m q) → (q : ℕ → Bool) (a : ℕ) → left (λ i. map.contains_key n i && q i) a ≡ left (λ i. map.contains_key m i && q i) a
  same_rest n e q a = ap (λ (k : ℕ → Bool). left (λ i. k i && q i) a) (fun_ext e)

  pub first_rest : (n : map.FinMap nat_cmp T) → ((q : ℕ) → map.contains_key n q ≡ map.contains_key m q) → (p q : ℕ → Bool) (a : ℕ) → left (λ i. (map.contains_key n i && p i) && q i) a ≡ left (λ i. (map.contains_key m i && p i) && q i) a
  first_rest n e p q a = ap (λ (k : ℕ → Bool). left (λ i. (k i && p i) && q i) a) (fun_ext e)

  pub second_rest : (n : map.FinMap nat_cmp T) → ((q : ℕ) → map.contains_key n q ≡ map.contains_key m q) → (p q : ℕ → Bool) (a : ℕ) → left (λ i. (p i && map.contains_key n i) && q i) a ≡ left (λ i. (p i && map.contains_key m i) && q i) a
  second_rest n e p q a = ap (λ (k : ℕ → Bool). left (λ i. (p i && k i) && q i) a) (fun_ext e)

-- ---- where a cursor stands
-- what holds of an option's value holds of that of an equal option
pub some_at : (P : ℕ → Type 0) (o p : Option ℕ) → p ≡ o → IfSome o P → (x : ℕ) → p ≡ Some x → P x
some_at P None p same h x e = cc
some_at P (Some i) p same h x e = let at : i ≡ x = cc in subst P at h

-- an index that had a value has one after a write to it, and so the same indices have one
either_some : {A : Type 0} (b : Bool) (x : A) (o : Option A) → (b ≡ true → is_some o ≡ true) → is_some (cond b (Some x) o) ≡ is_some o
either_some true x o h = sym (h refl)
either_some false x o h = refl

pub same_indices : {T : Type 0} (m : map.FinMap nat_cmp T) (id : ℕ) (x : T) → map.contains_key m id ≡ true → (q : ℕ) → map.contains_key (map.insert m id x) q ≡ map.contains_key m q
same_indices m id x h q = ap is_some (get-insert m id x q) ∙ either_some (nat_eq id q) x (map.get m q) (λ e. let same : id ≡ q = grind (arith, nat_tests) in ap (map.contains_key m) (sym same) ∙ h)

pub none_at : (o : Option ℕ) → is_some o ≡ false → (x : ℕ) → o ≡ Some x → ⊥
none_at None h x e = cc
none_at (Some i) h x e = cc

-- ---- refusals
pub not_absent : {B : Type 0} (r : Result B NotLent) → IfErr r (λ e. e ≡ OutOfMemory) → r ≡ Err Absent → ⊥
not_absent (Ok x) h e = cc
not_absent (Err a) h e = cc

-- where a cursor stands at an index that has a value, it lends something
pub standing_somewhere : {A T : Type 0} (r : Option A) (here : Option ℕ) (i : ℕ) (x : Option T) → here ≡ Some i → is_some x ≡ true → IfNone r (x ≡ None) → (r ≡ None) ↔ (here ≡ None)
standing_somewhere r here i None at there none = absurd (false≢true there)
standing_somewhere None here i (Some x) at there none = absurd (false≢true (sym (ap is_some none)))
standing_somewhere (Some y) here i (Some x) at there none = ((λ e. absurd (false≢true (ap is_some (sym e)))), (λ e. absurd (false≢true (ap is_some (sym e ∙ at)))))

-- ---- every index
and_true : (b : Bool) → (b && true) ≡ b
and_true true = refl
and_true false = refl

-- all that is below the limit
pub left_of_all : (p : ℕ → Bool) → left (λ i. p i && everywhere 0 i) 0 ≡ left p 0
left_of_all p = left_same _ _ 0 (λ i _ lt. let b : everywhere 0 i ≡ true = lt-ltb i INDEX_LIMIT (omega (arith, lt)) in ap (λ c. p i && c) b ∙ and_true (p i))

-- ---- the living
pub either_lives : (a b : set.FinSet nat_cmp) (c : Census) → ((i : ℕ) → set.contains a i ≡ (population c).merged i) → ((i : ℕ) → set.contains b i ≡ (population c).pending i) → (i : ℕ) → (has_part a 0 i || has_part b 0 i) ≡ lives (population c) i
either_lives a b c merged pending i =
    ap (λ x. x || has_part b 0 i) (has_part_zero a i ∙ merged i) ∙ ap (λ y. (population c).merged i || y) (has_part_zero b i ∙ pending i)

-- equal tests, each beside another
pub beside_same : (a b : ℕ → Bool) → ((i : ℕ) → a i ≡ b i) → (q : ℕ → Bool) → ◌≡◌ {A = ℕ → Bool} (λ i. a i && q i) (λ i. b i && q i)
beside_same a b e q = fun_ext (λ i. ap (λ c. c && q i) (e i))

pub some_same : (o : Option ℕ) (a b : ℕ → Bool) → ((i : ℕ) → a i ≡ b i) → IfSome o (λ i. a i ≡ true) → IfSome o (λ i. b i ≡ true)
some_same None a b e h = h
some_same (Some i) a b e h = sym (e i) ∙ h

-- an index of two tests at once is one of each
pub both_at : (a b p q : ℕ → Bool) → a ≡ p → b ≡ q → (o r : Option ℕ) → o ≡ r → IfSome r (λ i. (a i && b i) ≡ true) → (x : ℕ) → o ≡ Some x → (p x ≡ true) × (q x ≡ true)
both_at a b p q e f o r same h x at =
    let is = some_at (λ i. (a i && b i) ≡ true) r o same h x at in
    let parts = and_parts (a x) (b x) is in
    (ap (λ (k : ℕ → Bool). k x) (sym e) ∙ parts.0, ap (λ (k : ℕ → Bool). k x) (sym f) ∙ parts.1)
