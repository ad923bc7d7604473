-- A set of indices, and the parts of the index range that have a member.
use Rattle.std.specs.Prelude.{◌≡◌, ℕ, ◌+◌, ◌*◌, ◌/◌, ◌%◌, ◌^◌, ◌<◌, ◌≤◌, Bool, true, false, cond, ◌||◌, ◌==◌, List, [], ◌∷◌, refl}
use Rattle.std.specs.List.{list_any}
use Rattle.std.specs.Ordering.{nat_cmp}
use Rattle.std.specs.Cmp.{unsigned_tied, nat_cmp_total, both_ways}
use Rattle.std.specs.FinSet as set
use Rattle.std.proofs.Common.{arith, sym, ap, ◌∙◌, eqb-true, eq-eqb, add-one}
use Rattle.std.proofs.Math.Nat.{div-div-eq-div-mul, pow-suc, div-one}
use Rattle.std.proofs.lemmas.Bool.{or_left, or_right, true≢false}
use Rattle.std.specs.Coded.{Coded, code_by, coded×, coded_ℕ}
use Rattle.hibits.specs.Counts.{count_below, count_none, count_implied, count_one, count_either}

-- a set of indices, and the blocks of 4096 indices that have room
pub record Layered : Type 0 where
  pub members : set.FinSet nat_cmp
  pub room : set.FinSet nat_cmp

abbrev pub layered_code : Coded Layered
layered_code = code_by (set.FinSet nat_cmp × set.FinSet nat_cmp) (coded× (set.code coded_ℕ) (set.code coded_ℕ)) (λ s. (s.members, s.room)) (λ p. record { members = p.0; room = p.1 }) (λ _. refl)

-- whether there is room for an index
abbrev pub HasRoom : Layered → ℕ → Type 0
HasRoom s i = set.contains s.room (i / 4096) ≡ true

-- whether a member of s lies in part i, where a part of layer l has 64 ^ l indices
unfoldable pub has_part : set.FinSet nat_cmp → ℕ → ℕ → Bool
has_part s l i = list_any (λ x. x / 64 ^ l == i) (set.items s)

-- ---- a member in a part
same_items : (p q : ℕ → Bool) → ((x : ℕ) → p x ≡ q x) → (xs : List ℕ) → list_any p xs ≡ list_any q xs
same_items p q e [] = refl
same_items p q e (x ∷ xs) = rw (e x, same_items p q e xs)

found : (p : ℕ → Bool) (xs : List ℕ) → list_any p xs ≡ true → (x : ℕ) × (list_any (λ y. x == y) xs ≡ true) × (p x ≡ true)
found p [] e = cc
found p (x ∷ xs) e =
    elim (p x) as (λ b. p x ≡ b → (b || list_any p xs) ≡ true → (y : ℕ) × ((y == x || list_any (λ z. y == z) xs) ≡ true) × (p y ≡ true)) [
      | true ↦ λ here _. (x, ap (λ b. b || list_any (λ z. x == z) xs) (eq-eqb x x refl), here)
      | false ↦ λ _ rest. let f = found p xs rest in (f.0, or_right _ _ f.1, f.2)
    ] refl e

finds : (p : ℕ → Bool) (x : ℕ) → p x ≡ true → (xs : List ℕ) → list_any (λ y. x == y) xs ≡ true → list_any p xs ≡ true
finds p x px [] e = cc
finds p x px (y ∷ ys) e =
    elim (x == y) as (λ b. (x == y) ≡ b → (b || list_any (λ z. x == z) ys) ≡ true → (p y || list_any p ys) ≡ true) [
      | true ↦ λ same _. let py : p y ≡ true = ap p (sym (eqb-true x y same)) ∙ px in ap (λ b. b || list_any p ys) py
      | false ↦ λ _ rest. or_right _ _ (finds p x px ys rest)
    ] refl e

contains-items : (s : set.FinSet nat_cmp) (x : ℕ) → set.contains s x ≡ list_any (λ y. x == y) (set.items s)
contains-items s x = set.contains-items s x ∙ same_items _ _ (unsigned_tied x) (set.items s)

-- an empty set has no member
pub none_in_empty : (s : set.FinSet nat_cmp) → s ≡ set.empty → (x : ℕ) → set.contains s x ≡ true → ⊥
none_in_empty s empty x has = true≢false (sym has ∙ ap (λ t. set.contains t x) empty ∙ set.contains-empty nat_cmp x)

-- a part that has a member, and its member
pub part_member : (s : set.FinSet nat_cmp) (l i : ℕ) → has_part s l i ≡ true → (x : ℕ) × (set.contains s x ≡ true) × (x / 64 ^ l ≡ i)
unfolding has_part
part_member s l i e =
    let f = found (λ x. x / 64 ^ l == i) (set.items s) e in
    (f.0, contains-items s f.0 ∙ f.1, eqb-true _ _ f.2)

pub member_part : (s : set.FinSet nat_cmp) (l x : ℕ) → set.contains s x ≡ true → has_part s l (x / 64 ^ l) ≡ true
unfolding has_part
member_part s l x e = finds (λ y. y / 64 ^ l == x / 64 ^ l) x (eq-eqb (x / 64 ^ l) (x / 64 ^ l) refl) (set.items s) (sym (contains-items s x) ∙ e)

-- the parts of layer 0 are the indices
pub has_part_zero : (s : set.FinSet nat_cmp) (i : ℕ) → has_part s 0 i ≡ set.contains s i
has_part_zero s i =
    let one : 64 ^ 0 ≡ 1 = refl in
    both_ways _ _
    (λ e. let m = part_member s 0 i e in let d : m.0 / 1 ≡ m.0 = div-one m.0 in ap (set.contains s) (sym (sym d ∙ m.2)) ∙ m.1)
    (λ e. let d : i / 1 ≡ i = div-one i in ap (has_part s 0) (sym d) ∙ member_part s 0 i e)

pub up_part : (x l : ℕ) → x / 64 ^ l / 64 ≡ x / 64 ^ (l + 1)
up_part x l = div-div-eq-div-mul x (64 ^ l) 64 ∙ ap (λ n. x / n) (let p = pow-suc 64 l in let e = add-one l in sym p ∙ ap (λ k. 64 ^ k) (sym e))

-- a part lies in one part of the layer above
pub part_covers : (s : set.FinSet nat_cmp) (l i : ℕ) → has_part s l i ≡ true → has_part s (l + 1) (i / 64) ≡ true
part_covers s l i e =
    let m = part_member s l i e in
    ap (has_part s (l + 1)) (sym (sym (up_part m.0 l) ∙ ap (λ n. n / 64) m.2)) ∙ member_part s (l + 1) m.0 m.1

-- and a part that has a member has one that does
pub part_within : (s : set.FinSet nat_cmp) (l i : ℕ) → has_part s (l + 1) i ≡ true → (j : ℕ) × (j < 64) × (has_part s l (64 * i + j) ≡ true)
part_within s l i e =
    let m = part_member s (l + 1) i e in
    let up : m.0 / 64 ^ l / 64 ≡ i = up_part m.0 l ∙ m.2 in
    let at : m.0 / 64 ^ l ≡ 64 * i + (m.0 / 64 ^ l) % 64 = omega arith in
    ((m.0 / 64 ^ l) % 64, omega arith, ap (has_part s l) (sym at) ∙ member_part s l m.0 m.1)

-- ---- how many parts have a member
same_part : (s t : set.FinSet nat_cmp) (l i : ℕ) → ((x : ℕ) → set.contains s x ≡ true → set.contains t x ≡ true) → has_part s l i ≡ true → has_part t l i ≡ true
same_part s t l i sub e = let m = part_member s l i e in ap (has_part t l) (sym m.2) ∙ member_part t l m.0 (sub m.0 m.1)

-- one more member, one more part at most
insert_part : (s : set.FinSet nat_cmp) (k l i : ℕ) → has_part (set.insert s k) l i ≡ true → (k / 64 ^ l == i || has_part s l i) ≡ true
insert_part s k l i e =
    let m = part_member (set.insert s k) l i e in
    let is : (m.0 == k || set.contains s m.0) ≡ true = sym (set.contains-insert nat_cmp_total s k m.0 ∙ ap (λ b. b || set.contains s m.0) (unsigned_tied m.0 k)) ∙ m.1 in
    elim (m.0 == k) as (λ b. (m.0 == k) ≡ b → (b || set.contains s m.0) ≡ true → (k / 64 ^ l == i || has_part s l i) ≡ true) [
      | true ↦ λ same _. or_left (k / 64 ^ l == i) _ (eq-eqb (k / 64 ^ l) i (ap (λ n. n / 64 ^ l) (sym (eqb-true m.0 k same)) ∙ m.2))
      | false ↦ λ _ old. or_right (k / 64 ^ l == i) _ (ap (has_part s l) (sym m.2) ∙ member_part s l m.0 old)
    ] refl is

insert_same : (s : set.FinSet nat_cmp) (k : ℕ) → set.contains s k ≡ true → (x : ℕ) → set.contains (set.insert s k) x ≡ true → set.contains s x ≡ true
insert_same s k had x e =
    let is : (x == k || set.contains s x) ≡ true = sym (set.contains-insert nat_cmp_total s k x ∙ ap (λ b. b || set.contains s x) (unsigned_tied x k)) ∙ e in
    elim (x == k) as (λ b. (x == k) ≡ b → (b || set.contains s x) ≡ true → set.contains s x ≡ true) [
      | true ↦ λ same _. ap (set.contains s) (eqb-true x k same) ∙ had
      | false ↦ λ _ old. old
    ] refl is

list_few : (ks : List ℕ) (l n : ℕ) → count_below (has_part (set.from_list {R = nat_cmp} ks) l) n ≤ set.len (set.from_list {R = nat_cmp} ks)
list_few [] l n =
    let none = count_none (has_part set.empty l) n (λ i _ e. let m = part_member set.empty l i e in none_in_empty set.empty refl m.0 m.1) in
    omega arith
list_few (k ∷ ks) l n =
    let rest = list_few ks l n in
    let s = set.from_list {R = nat_cmp} ks in
    let more = set.len-insert nat_cmp_total (set.from_list {R = nat_cmp} ks) k in
    elim (set.contains (set.from_list {R = nat_cmp} ks) k) as (λ b. set.contains (set.from_list {R = nat_cmp} ks) k ≡ b → set.len (set.insert (set.from_list {R = nat_cmp} ks) k) ≡ cond b (set.len (set.from_list {R = nat_cmp} ks)) (set.len (set.from_list {R = nat_cmp} ks) + 1) → count_below (has_part (set.insert (set.from_list {R = nat_cmp} ks) k) l) n ≤ set.len (set.insert (set.from_list {R = nat_cmp} ks) k)) [
      | true ↦ λ had len.
          let old = count_implied (has_part (set.insert (set.from_list {R = nat_cmp} ks) k) l) (has_part (set.from_list {R = nat_cmp} ks) l) (λ i e. same_part _ _ l i (insert_same (set.from_list {R = nat_cmp} ks) k had) e) n in
          omega arith
      | false ↦ λ _ len.
          let new = count_implied (has_part (set.insert (set.from_list {R = nat_cmp} ks) k) l) (λ i. k / 64 ^ l == i || has_part (set.from_list {R = nat_cmp} ks) l i) (λ i e. insert_part (set.from_list {R = nat_cmp} ks) k l i e) n in
          let sum = count_either (λ i. k / 64 ^ l == i) (has_part (set.from_list {R = nat_cmp} ks) l) n in
          let one = count_one (k / 64 ^ l) n in
          omega arith
    ] refl more

pub part_few : (s : set.FinSet nat_cmp) (l n : ℕ) → count_below (has_part s l) n ≤ set.len s
part_few s l n =
    let same : set.from_list (set.items s) ≡ s = set.same_set nat_cmp_total set.nat_cmp-IsAntisymmetric _ _ (λ q. set.contains-from_list nat_cmp_total (set.items s) q ∙ sym (set.contains-items s q)) in
    rw same at (list_few (set.items s) l n)
