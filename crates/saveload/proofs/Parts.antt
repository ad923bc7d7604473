-- A row is split off as what it was made of.
use Rattle.std.proofs.Common.{◌≡◌, ℕ, zero, suc, ◌+◌, ◌-◌, ◌<◌, List, [], ◌∷◌, ◌++◌, length, take, get_or, Option, Some, None, option_map, option_and_then, refl, sym, ap, ◌∙◌, arith, append_assoc, append-nil}
use Rattle.std.proofs.lemmas.List.{take_more}
use Rattle.serde_json.specs.Data.{Data, Items, no_items}
use Rattle.serde_json.specs.View.{items_of}
use Rattle.saveload.specs.JsonParts.{row_json, row_from, Splits, three_parts, three_split, four_parts, four_split, all_parts, all_split, list_parts, list_split, AllSplit}

pub row_back : {X : Type 0} (parts : X → List Data) (split : Items → Option (X × Items)) (x : X) → Splits parts split x → row_from split (row_json parts x) ≡ Some x
row_back parts split x s =
    let e : split (items_of (parts x)) ≡ Some (x, no_items) = ap (λ l. split (items_of l)) (sym (append-nil (parts x))) ∙ s [] in
    rw e refl

pub three_back : {X Y Z : Type 0} (p : X → List Data) (s : Items → Option (X × Items)) (q : Y → List Data) (t : Items → Option (Y × Items)) (r : Z → List Data)
    (u : Items → Option (Z × Items)) (x : X × Y × Z) → Splits p s x.0 → Splits q t x.1 → Splits r u x.2 → Splits (three_parts p q r) (three_split s t u) x
three_back p s q t r u x a b c =
    λ rest. rw (append_assoc (p x.0) (q x.1 ++ r x.2) rest, a ((q x.1 ++ r x.2) ++ rest), append_assoc (q x.1) (r x.2) rest, b (r x.2 ++ rest), c rest) refl

pub four_back : {W X Y Z : Type 0} (o : W → List Data) (s : Items → Option (W × Items)) (p : X → List Data) (t : Items → Option (X × Items)) (q : Y → List Data)
    (u : Items → Option (Y × Items)) (r : Z → List Data) (v : Items → Option (Z × Items)) (x : W × X × Y × Z)
    → Splits o s x.0 → Splits p t x.1 → Splits q u x.2 → Splits r v x.3 → Splits (four_parts o p q r) (four_split s t u v) x
four_back o s p t q u r v x a b c d =
    λ rest.
    rw (
      append_assoc (o x.0) (p x.1 ++ (q x.2 ++ r x.3)) rest,
      a ((p x.1 ++ (q x.2 ++ r x.3)) ++ rest),
      append_assoc (p x.1) (q x.2 ++ r x.3) rest,
      b ((q x.2 ++ r x.3) ++ rest),
      append_assoc (q x.2) (r x.3) rest,
      c (r x.3 ++ rest),
      d rest,
    ) refl

-- ---- lists

pub all_more : {X : Type 0} (parts : X → List Data) (xs : List X) (x : X) → all_parts parts (xs ++ x ∷ []) ≡ all_parts parts xs ++ parts x
all_more parts [] x = append-nil (parts x)
all_more parts (y ∷ xs) x = ap (λ l. parts y ++ l) (all_more parts xs x) ∙ sym (append_assoc (parts y) (all_parts parts xs) (parts x))

all_split_more : {X : Type 0} (parts : X → List Data) (split : Items → Option (X × Items)) (xs : List X) (x : X) → AllSplit parts split xs → Splits parts split x
    → AllSplit parts split (xs ++ x ∷ [])
all_split_more parts split [] x a s = (s, tt)
all_split_more parts split (y ∷ xs) x a s = (a.0, all_split_more parts split xs x a.1 s)

-- one more of a list is appended
pub push_step : {X : Type 0} (parts : X → List Data) (split : Items → Option (X × Items)) (xs : List X) (i : ℕ) (x : X) (old row new : List Data)
    → i < length xs → row ≡ old ++ all_parts parts (take i xs) → AllSplit parts split (take i xs)
    → new ≡ row ++ parts (get_or xs i x) → Splits parts split (get_or xs i x)
    → (new ≡ old ++ all_parts parts (take (i + 1) xs)) × AllSplit parts split (take (i + 1) xs)
push_step {X} parts split xs i x old row new lt e a n s =
    let y : X = get_or xs i x in
    rw (take_more xs i x lt) (
      n ∙ ap (λ l. l ++ parts y) e ∙ append_assoc old (all_parts parts (take i xs)) (parts y) ∙ ap (λ l. old ++ l) (sym (all_more parts (take i xs) y)),
      all_split_more parts split (take i xs) y a s,
    )

-- a list is split off as it
all_back : {X : Type 0} (parts : X → List Data) (split : Items → Option (X × Items)) (xs : List X) → AllSplit parts split xs → (rest : List Data)
    → all_split split (length xs) (items_of (all_parts parts xs ++ rest)) ≡ Some (xs, items_of rest)
all_back parts split [] a rest = refl
all_back parts split (x ∷ xs) a rest = rw (append_assoc (parts x) (all_parts parts xs) rest, a.0 (all_parts parts xs ++ rest), all_back parts split xs a.1 rest) refl

pub list_back : {X : Type 0} (parts : X → List Data) (split : Items → Option (X × Items)) (xs : List X) → AllSplit parts split xs
    → Splits (list_parts parts) (list_split split) xs
list_back parts split xs a = λ rest. all_back parts split xs a rest

-- what was split off, and what the rest gives
abbrev pub before : {X : Type 0} → List X → Option (List X × Items) → Option (List X × Items)
before done o = option_map (λ q. (done ++ q.0, q.1)) o

before_more : {X : Type 0} (done : List X) (x : X) (o : Option (List X × Items)) → before done (option_map (λ q. (x ∷ q.0, q.1)) o) ≡ before (done ++ x ∷ []) o
before_more done x None = refl
before_more done x (Some q) = ap (λ l. Some (l, q.1)) (sym (append_assoc done (x ∷ []) q.0))

next_split : {X : Type 0} (split : Items → Option (X × Items)) (n : ℕ) (ds : Items) → 0 < n
    → all_split split n ds ≡ option_and_then (λ p. option_map (λ q. (p.0 ∷ q.0, q.1)) (all_split split (n - 1) p.1)) (split ds)
next_split split zero ds lt = absurd (omega (arith, lt))
next_split split (suc n) ds lt = let e : suc n - 1 ≡ n = omega arith in rw e refl

pub split_step : {X N : Type 0} (now : N → Items) (split : Items → Option (X × Items)) (whole : Option (List X × Items)) (done new : List X) (n : ℕ) (ds : Items)
    (o : Option (X × N)) (x : X) (rest : N) → 0 < n → whole ≡ before done (all_split split n ds) → o ≡ Some (x, rest)
    → option_map (λ p. (p.0, now p.1)) o ≡ split ds → new ≡ done ++ x ∷ [] → whole ≡ before new (all_split split (n - 1) (now rest))
split_step now split whole done new n ds o x rest lt e is f more =
    let s : split ds ≡ Some (x, now rest) = sym f ∙ ap (λ r. option_map (λ p. (p.0, now p.1)) r) is in
    let a : all_split split n ds ≡ option_map (λ q. (x ∷ q.0, q.1)) (all_split split (n - 1) (now rest)) = next_split split n ds lt ∙ rw s refl in
    e ∙ ap (before done) a ∙ before_more done x (all_split split (n - 1) (now rest)) ∙ ap (λ l. before l (all_split split (n - 1) (now rest))) (sym more)
