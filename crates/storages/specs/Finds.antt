-- What is found after a call: the lemmas that a caller of the storages needs, for `using(..)` in its `tactic`.
use Rattle.std.proofs.Common.{◌≡◌, ◌≢◌, ◌∙◌, ap, refl, ℕ, Bool, true, false, not, ◌&&◌, ◌||◌, cond, nat_eq, Some, None, List, [], ◌∷◌, arith}
use Rattle.std.specs.Prelude.{Option, pos}
use Rattle.std.proofs.lemmas.Bool.{false≢true}
use Rattle.std.proofs.lemmas.Bool.Decides.{nat_tests}
use Rattle.std.specs.Ordering.{nat_cmp, int_eq}
use Rattle.std.specs.Cmp.{nat_cmp_total, unsigned_tied}
use Rattle.std.specs.FinMap as map
use Rattle.entities.specs.Census.{Census, population}
use Rattle.entities.specs.Population.{Population, index_of, generation_of}
use Rattle.entities.specs.Deaths.{all_dead, has_index}
use Rattle.entities.specs.declared.entity.Entity.{Entity}
use Rattle.storages.specs.Life.{is_alive}
use Rattle.storages.specs.Slot.{Slot}
use Rattle.storages.specs.Found.{found_in}

turned : (a b : ℕ) → nat_eq a b ≡ nat_eq b a
turned a b = grind (arith, nat_tests)

itself : (a : ℕ) → nat_eq a a ≡ true
itself a = grind (arith, nat_tests)

not_other : (a b : ℕ) → b ≢ a → nat_eq a b ≡ false
not_other a b n = elim (nat_eq a b) as (λ r. nat_eq a b ≡ r → nat_eq a b ≡ false) [ true ↦ λ h. absurd (n (grind (arith, nat_tests))) | false ↦ λ h. h ] refl

module _ {T : Type 0} where
  -- what a map has after an insertion and after a removal
  pub get-insert : (m : map.FinMap nat_cmp T) (k : ℕ) (v : T) (q : ℕ) → map.get (map.insert m k v) q ≡ cond (nat_eq k q) (Some v) (map.get m q)
  get-insert m k v q =
      map.get-insert nat_cmp_total m k v q ∙ ap (λ b. cond b (Some v) (map.get m q)) (unsigned_tied q k ∙ turned q k)

  pub get-remove : (m : map.FinMap nat_cmp T) (k q : ℕ) → map.get (map.remove m k) q ≡ cond (nat_eq k q) None (map.get m q)
  get-remove m k q =
      map.get-remove nat_cmp_total m k q ∙ ap (λ b. cond b None (map.get m q)) (unsigned_tied q k ∙ turned q k)

module _ {T : Type 0} (m m' : map.FinMap nat_cmp T) (i : ℕ) where
  -- after an insertion: the index has what was put there, and each other what it had
  pub got_put : (x : T) → m' ≡ map.insert m i x → map.get m' i ≡ Some x
  got_put x e = ap (λ (n : map.FinMap nat_cmp T). map.get n i) e ∙ get-insert m i x i ∙ ap (λ b. cond b (Some x) (map.get m i)) (itself i)

  pub got_kept : (x : T) (q : ℕ) → q ≢ i → m' ≡ map.insert m i x → map.get m' q ≡ map.get m q
  got_kept x q ne e = ap (λ (n : map.FinMap nat_cmp T). map.get n q) e ∙ get-insert m i x q ∙ ap (λ b. cond b (Some x) (map.get m q)) (not_other i q ne)

  -- after a removal: the index has nothing, and each other what it had
  pub got_none : m' ≡ map.remove m i → map.get m' i ≡ None
  got_none e = ap (λ (n : map.FinMap nat_cmp T). map.get n i) e ∙ get-remove m i i ∙ ap (λ b. cond b None (map.get m i)) (itself i)

  pub got_left : (q : ℕ) → q ≢ i → m' ≡ map.remove m i → map.get m' q ≡ map.get m q
  got_left q ne e = ap (λ (n : map.FinMap nat_cmp T). map.get n q) e ∙ get-remove m i q ∙ ap (λ b. cond b None (map.get m q)) (not_other i q ne)

module _ {T : Type 0} (c c' : Census) (s s' : Slot T) (same : c' ≡ c) where
  by_map : (q : Entity) → map.get s'.map (index_of q) ≡ map.get s.map (index_of q) → found_in c' s' q ≡ found_in c s q
  by_map q e = ap (λ (k : Census). cond (is_alive (population k) q) (map.get s'.map (index_of q)) None) same ∙ ap (λ o. cond (is_alive (population c) q) o None) e

  nothing : (b : Bool) (o : Option T) → o ≡ None → cond b o None ≡ None
  nothing true o e = e
  nothing false o e = refl

  -- after an insertion at an entity that is alive: it finds what was put there, and each entity of another index what it found
  pub found_put : (e : Entity) (x : T) → is_alive (population c) e ≡ true → s'.map ≡ map.insert s.map (index_of e) x → found_in c' s' e ≡ Some x
  found_put e x alive put =
      ap (λ (k : Census). cond (is_alive (population k) e) (map.get s'.map (index_of e)) None) same
      ∙ ap (λ b. cond b (map.get s'.map (index_of e)) None) alive
      ∙ got_put s.map s'.map (index_of e) x put

  pub found_kept : (e q : Entity) (x : T) → index_of q ≢ index_of e → s'.map ≡ map.insert s.map (index_of e) x → found_in c' s' q ≡ found_in c s q
  found_kept e q x ne put = by_map q (got_kept s.map s'.map (index_of e) x (index_of q) ne put)

  -- after a removal: the entity finds nothing, and each entity of another index what it found
  pub found_gone : (e : Entity) → s'.map ≡ map.remove s.map (index_of e) → found_in c' s' e ≡ None
  found_gone e taken = nothing (is_alive (population c') e) (map.get s'.map (index_of e)) (got_none s.map s'.map (index_of e) taken)

  pub found_left : (e q : Entity) → index_of q ≢ index_of e → s'.map ≡ map.remove s.map (index_of e) → found_in c' s' q ≡ found_in c s q
  found_left e q ne taken = by_map q (got_left s.map s'.map (index_of e) (index_of q) ne taken)

-- an entity that is not alive finds nothing
pub found_dead : {T : Type 0} (c : Census) (s : Slot T) (e : Entity) → is_alive (population c) e ≡ false → found_in c s e ≡ None
found_dead c s e dead = ap (λ b. cond b (map.get s.map (index_of e)) None) dead

no_life : (a b c h : Bool) → h ≡ true → ((a && not h || b && not h) && c) ≡ false
no_life a b c true h = by a b
  where
    by : (x y : Bool) → ((x && false || y && false) && c) ≡ false
    by true true = refl
    by true false = refl
    by false true = refl
    by false false = refl
no_life a b c false h = absurd (false≢true h)

-- an entity whose index was named by a death at once is not alive
pub dead_is_not_alive : (p p' : Population) (es : List Entity) (e : Entity) → p' ≡ all_dead es p → has_index es (index_of e) ≡ true → is_alive p' e ≡ false
dead_is_not_alive p p' es e dead named =
    ap (λ (k : Population). is_alive k e) dead
    ∙ no_life (p.merged (index_of e)) (p.pending (index_of e)) (int_eq (generation_of e) (pos (p.births (index_of e)))) (has_index es (index_of e)) named

-- one that died alone
pub killed_is_not_alive : (p p' : Population) (e : Entity) → p' ≡ all_dead (e ∷ []) p → is_alive p' e ≡ false
killed_is_not_alive p p' e dead = dead_is_not_alive p p' (e ∷ []) e dead (ap (λ b. b || false) (itself (index_of e)))
