-- On indices that are asked, one after another and piece by piece.
use Rattle.std.proofs.Common.{◌≡◌, ℕ, ◌+◌, ◌<◌, List, [], ◌∷◌, ◌++◌, length, suc, zero, map, take, get_or, Option, Some, None, refl, sym, ap, ◌∙◌, subst, arith, flat_map, append_assoc}
use Rattle.std.specs.Prelude.{Ok, IfOk, Result}
use Rattle.std.specs.List.{AllZip, All}
use Rattle.std.proofs.lemmas.List.{take_more}
use Rattle.std.proofs.lemmas.List.Elements.{filter_map-append}
use Rattle.std.proofs.lemmas.List.Concat.{flat_map-append}
use Rattle.rayon.specs.Lists.{chunks_of}
use Rattle.rayon.proofs.ListFacts.{AllZip-append}
use Rattle.rayon.proofs.ToStd.{chunks_of-concat}
use Rattle.std.proofs.lemmas.List.Elements.{All-nil, All-cons, All-tail}
use Rattle.joins_parallel.specs.Cutting.{Asked, AsksMore, values_of}

module _ {X : Type 0} (P : X → Type 0) where
  pub all_left : (qs ps : List X) → All P (qs ++ ps) → All P qs
  all_left [] ps h = All-nil P
  all_left (q ∷ qs) ps h = All-cons P q qs (h 0 q (omega arith)) (all_left qs ps (All-tail P q (qs ++ ps) h))

  pub all_right : (qs ps : List X) → All P (qs ++ ps) → All P ps
  all_right [] ps h = h
  all_right (q ∷ qs) ps h = all_right qs ps (All-tail P q (qs ++ ps) h)

no_tail : {X : Type 0} (xs : List X) → xs ++ [] ≡ xs
no_tail [] = refl
no_tail (x ∷ xs) = ap (λ ys. x ∷ ys) (no_tail xs)

module _ {X : Type 0} (R : ℕ → Option X → Type 0) where
  pub asked_none : Asked R [] []
  asked_none = record { options = []; each = tt; values = refl }

  pub asked_append : (is js : List ℕ) (xs ys : List X) → Asked R is xs → Asked R js ys → Asked R (is ++ js) (xs ++ ys)
  asked_append is js xs ys a b = record {
    options = a.options ++ b.options;
    each = AllZip-append R is js a.options b.options a.each b.each;
    values = ap (λ zs. zs ++ ys) a.values ∙ ap (λ zs. values_of a.options ++ zs) b.values ∙ sym (filter_map-append (λ o. o) a.options b.options);
  }

  pub asked_one : (i : ℕ) (x : X) → R i (Some x) → Asked R (i ∷ []) (x ∷ [])
  asked_one i x r = record { options = Some x ∷ []; each = (r, tt); values = refl }

  pub asked_no_one : (i : ℕ) → R i None → Asked R (i ∷ []) []
  asked_no_one i r = record { options = None ∷ []; each = (r, tt); values = refl }

  -- one index more of a list
  module _ (list : List ℕ) (k d : ℕ) (lt : k < length list) (xs : List X) (so_far : Asked R (take k list) xs) where
    pub asked_next : (x : X) → R (get_or list k d) (Some x) → Asked R (take (k + 1) list) (xs ++ x ∷ [])
    asked_next x r = rw (take_more list k d lt) (asked_append (take k list) (get_or list k d ∷ []) xs (x ∷ []) so_far (asked_one (get_or list k d) x r))

    pub asked_past : R (get_or list k d) None → Asked R (take (k + 1) list) xs
    asked_past r = subst (λ ys. Asked R (take (k + 1) list) ys) (no_tail xs) (rw (take_more list k d lt) (asked_append (take k list) (get_or list k d ∷ []) xs [] so_far (asked_no_one (get_or list k d) r)))

  -- what was put at the end of a list
  pub asks_none : (xs : List X) → AsksMore R [] xs xs
  asks_none xs = record { values = []; asked = asked_none; more = sym (no_tail xs) }

  module _ (is : List ℕ) (old new : List X) (a : AsksMore R is old new) (i : ℕ) where
    pub asks_next : (x : X) → R i (Some x) → AsksMore R (is ++ i ∷ []) old (new ++ x ∷ [])
    asks_next x r = record {
      values = a.values ++ x ∷ [];
      asked = asked_append is (i ∷ []) a.values (x ∷ []) a.asked (asked_one i x r);
      more = ap (λ zs. zs ++ x ∷ []) a.more ∙ append_assoc old a.values (x ∷ []);
    }

    pub asks_past : R i None → AsksMore R (is ++ i ∷ []) old new
    asks_past r = record {
      values = a.values;
      asked = subst (λ ys. Asked R (is ++ i ∷ []) ys) (no_tail a.values) (asked_append is (i ∷ []) a.values [] a.asked (asked_no_one i r));
      more = a.more;
    }

  pub asked_then : (is js : List ℕ) (old new : List X) → Asked R is old → AsksMore R js old new → Asked R (is ++ js) new
  asked_then is js old new a b = subst (λ ys. Asked R (is ++ js) ys) (sym b.more) (asked_append is js old b.values a b.asked)

  -- each piece was asked, so all side by side were
  module _ {C V : Type 0} (E : Type 0) (indices : C → List ℕ) (items : V → List X) where
    pub pieces_asked : (cs : List C) (vs : List V) → AllZip (λ (c : C) (r : Result V E). IfOk r (λ v. Asked R (indices c) (items v))) cs (map Ok vs) → Asked R (flat_map indices cs) (flat_map items vs)
    pieces_asked [] [] h = asked_none
    pieces_asked [] (v ∷ vs) h = absurd h
    pieces_asked (c ∷ cs) [] h = absurd h
    pieces_asked (c ∷ cs) (v ∷ vs) h = asked_append (indices c) (flat_map indices cs) (items v) (flat_map items vs) h.0 (pieces_asked cs vs h.1)

-- a list is mapped to lists chunk by chunk
module _ {C : Type 0} (indices : C → List ℕ) where
  flat_concat : (cs : List (List C)) → flat_map (λ c. flat_map indices c) cs ≡ flat_map indices (flat_map (λ c. c) cs)
  flat_concat [] = refl
  flat_concat (c ∷ cs) = ap (λ is. flat_map indices c ++ is) (flat_concat cs) ∙ sym (flat_map-append indices c (flat_map (λ c. c) cs))

  pub flat_chunks : (size : ℕ) (cs : List C) → 0 < size → flat_map (λ c. flat_map indices c) (chunks_of size cs) ≡ flat_map indices cs
  flat_chunks size cs pos = flat_concat (chunks_of size cs) ∙ ap (flat_map indices) (chunks_of-concat size cs pos)

-- the answers of the pieces of a list of what stands for indices
pub chunks_asked : {X C V E : Type 0} (R : ℕ → Option X → Type 0) (indices : C → List ℕ) (items : V → List X) (size : ℕ) (cs : List C) (rs : List (Result V E)) (ys vs : List V) → 0 < size → rs ≡ map Ok ys → vs ≡ ys
    → AllZip (λ (c : List C) (r : Result V E). IfOk r (λ v. Asked R (flat_map indices c) (items v))) (chunks_of size cs) rs → Asked R (flat_map indices cs) (flat_map items vs)
chunks_asked {X} {C} {V} {E} R indices items size cs rs ys vs pos e f h =
    rw (flat_chunks indices size cs pos) at (pieces_asked R E (λ c. flat_map indices c) items (chunks_of size cs) vs (rw f (rw e at h)))

pub chunks_listed : {X V E : Type 0} (R : ℕ → Option X → Type 0) (items : V → List X) (size : ℕ) (is : List ℕ) (rs : List (Result V E)) (ys vs : List V) → 0 < size → rs ≡ map Ok ys → vs ≡ ys
    → AllZip (λ (c : List ℕ) (r : Result V E). IfOk r (λ v. Asked R c (items v))) (chunks_of size is) rs → Asked R is (flat_map items vs)
chunks_listed {X} {V} {E} R items size is rs ys vs pos e f h =
    rw (chunks_of-concat size is pos) at (pieces_asked R E (λ c. c) items (chunks_of size is) vs (rw f (rw e at h)))

-- what holds of each index of a list holds of each index of a chunk
module _ {C : Type 0} (indices : C → List ℕ) (P : ℕ → Type 0) where
  parts_all : (cs : List (List C)) → All P (flat_map (λ c. flat_map indices c) cs) → All (λ c. All P (flat_map indices c)) cs
  parts_all [] h = All-nil (λ c. All P (flat_map indices c))
  parts_all (c ∷ cs) h =
      All-cons (λ c. All P (flat_map indices c)) c cs (all_left P (flat_map indices c) (flat_map (λ c. flat_map indices c) cs) h) (parts_all cs (all_right P (flat_map indices c) (flat_map (λ c. flat_map indices c) cs) h))

  pub chunks_all : (size : ℕ) (cs : List C) → 0 < size → All P (flat_map indices cs) → All (λ c. All P (flat_map indices c)) (chunks_of size cs)
  chunks_all size cs pos h = parts_all (chunks_of size cs) (rw (flat_chunks indices size cs pos) h)

  -- of one of what stands for indices
  pub item_all : (cs : List C) → All P (flat_map indices cs) → (k : ℕ) (d : C) → k < length cs → All P (indices (get_or cs k d))
  item_all [] h k d lt = absurd (omega arith)
  item_all (c ∷ cs) h zero d lt = all_left P (indices c) (flat_map indices cs) h
  item_all (c ∷ cs) h (suc k) d lt = item_all cs (all_right P (indices c) (flat_map indices cs) h) k d (omega arith)

-- an index more of a list that is taken off from the front
pub one_more : (done : List ℕ) (rest rest' all : List ℕ) {i : ℕ} → rest ≡ i ∷ rest' → done ++ rest ≡ all → (done ++ i ∷ []) ++ rest' ≡ all
one_more done rest rest' all {i} e f = append_assoc done (i ∷ []) rest' ∙ ap (λ is. done ++ is) (sym e) ∙ f

pub next_of : (P : ℕ → Type 0) (done : List ℕ) (i : ℕ) (rest all : List ℕ) → (done ++ i ∷ []) ++ rest ≡ all → All P all → P i
next_of P done i rest all e h = all_right P done (i ∷ []) (all_left P (done ++ i ∷ []) rest (rw e h)) 0 0 (omega arith)

-- one item more of those that stand for indices
pub flat_more : {C : Type 0} (indices : C → List ℕ) (cs : List C) (k : ℕ) (d : C) → k < length cs → flat_map indices (take (k + 1) cs) ≡ flat_map indices (take k cs) ++ indices (get_or cs k d)
flat_more indices cs k d lt = ap (flat_map indices) (take_more cs k d lt) ∙ flat_map-append indices (take k cs) (get_or cs k d ∷ []) ∙ ap (λ is. flat_map indices (take k cs) ++ is) (no_tail (indices (get_or cs k d)))
