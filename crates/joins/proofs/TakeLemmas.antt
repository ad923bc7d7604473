-- Calls of a closure on components that are taken out.
use Rattle.std.proofs.Common.{◌≡◌, ℕ, ◌++◌, List, [], ◌∷◌, Some, refl, sym, ◌∙◌, ap, subst}
use Rattle.std.specs.Prelude.{Option}
use Rattle.std.specs.List.{Contains}
use Rattle.std.specs.List.Sorted.{IsStrictlyIncreasing}
use Rattle.std.specs.FinMap as map
use Rattle.std.specs.Ordering.{nat_cmp}
use Rattle.storages.specs.Finds.{got_left}
use Rattle.storages.specs.Slot.{Slot, IsSame}
use Rattle.joins.specs.Each.{each_gone}
use Rattle.joins.specs.Taking.{TakenAt, TakenAtEach, TakingStopped, TakingStoppedAt}
use Rattle.joins.proofs.CallLemmas.{contains_behind, first_once}

module _ {T I F : Type 0} (gives : ℕ → I → Type 0) (step : F → T → I → Unit {0} → F → Type 0) where
  -- one call more
  pub one_taken : (is : List ℕ) (i : ℕ) (f : F) (s : Slot T) (g : F) (m : Slot T) (f' : F) (s' : Slot T)
      → TakenAtEach gives step is f s g m → TakenAt gives step i g m f' s' → TakenAtEach gives step (is ++ (i ∷ [])) f s f' s'
  one_taken [] i f s g m f' s' c d = (f', s', subst (λ (t : Slot T). TakenAt gives step i f t f' s') c.1 (subst (λ (h : F). TakenAt gives step i h m f' s') c.0 d), (refl, refl))
  one_taken (j ∷ is) i f s g m f' s' c d = (c.0, c.1, c.2, one_taken is i c.0 c.1 g m f' s' c.3 d)

  -- what the map is afterwards
  pub gone_each : (is : List ℕ) (f : F) (s : Slot T) (f' : F) (s' : Slot T) → TakenAtEach gives step is f s f' s' → s'.map ≡ each_gone is s.map
  gone_each [] f s f' s' c = ap (λ (t : Slot T). t.map) c.1
  gone_each (i ∷ is) f s f' s' c = gone_each is c.0 c.1 f' s' c.3 ∙ ap (each_gone is) c.2.takes.map

  -- nothing is left, and the slot stays
  pub all_taken : (is done rest : List ℕ) (f : F) (s : Slot T) (f' : F) (s' t : Slot T) → is ≡ done ++ rest → rest ≡ [] → t ≡ s'
      → TakenAtEach gives step done f s f' s' → TakenAtEach gives step is f s f' t
  all_taken is done rest f s f' s' t e none same c =
      subst (λ (u : Slot T). TakenAtEach gives step is f s f' u) (sym same) (subst (λ (l : List ℕ). TakenAtEach gives step l f s f' s') (sym (e ∙ ap (λ (l : List ℕ). done ++ l) none ∙ right done)) c)
    where
      right : (l : List ℕ) → l ++ [] ≡ l
      right [] = refl
      right (x ∷ xs) = ap (λ (ys : List ℕ). x ∷ ys) (right xs)

  -- the next could not be taken out
  pub taking_stopped : (is done rest : List ℕ) (i : ℕ) (left : List ℕ) (f : F) (s : Slot T) (f' : F) (m t s' : Slot T) → is ≡ done ++ rest → rest ≡ i ∷ left → t ≡ m
      → TakenAtEach gives step done f s f' m → IsSame t s' → TakingStopped gives step is f s s'
  taking_stopped is done rest i left f s f' m t s' e next same c h = record {
    done = done;
    at = i;
    left = left;
    split = e ∙ ap (λ (l : List ℕ). done ++ l) next;
    state = f';
    mid = m;
    calls = c;
    same = subst (λ (u : Slot T). IsSame u s') same h;
  }

  -- and a cursor stands at it
  pub taking_stands_here : (is done rest : List ℕ) (i : ℕ) (left : List ℕ) (f : F) (s : Slot T) (f' : F) (m t s' : Slot T) → is ≡ done ++ rest → rest ≡ i ∷ left → t ≡ m
      → TakenAtEach gives step done f s f' m → IsSame t s' → (stands : Option ℕ) (behind : List ℕ) → stands ≡ Some i → behind ≡ left → TakingStoppedAt gives step is f s s' stands behind
  unfolding taking_stopped
  taking_stands_here is done rest i left f s f' m t s' e next same c h stands behind at ahead = record {
    stop = taking_stopped is done rest i left f s f' m t s' e next same c h;
    here = at;
    rest = ahead;
  }

-- the indices that are left keep what they had where the first of them is taken out
pub ahead_stays : {T : Type 0} (rest left : List ℕ) (i : ℕ) (first now next : map.FinMap nat_cmp T) → IsStrictlyIncreasing rest → rest ≡ i ∷ left → next ≡ map.remove now i
    → ((q : ℕ) → Contains rest q → map.get now q ≡ map.get first q) → (q : ℕ) → Contains left q → map.get next q ≡ map.get first q
ahead_stays rest left i first now next rise e gone same q c =
    got_left now next i q (λ k. first_once i left (subst IsStrictlyIncreasing e rise) q c (sym k)) gone
    ∙ same q (subst (λ (l : List ℕ). Contains l q) (sym e) (contains_behind i q left c))
