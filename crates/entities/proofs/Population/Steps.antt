-- What the steps do to the sets and to the population.
use Rattle.std.proofs.Common.{◌≡◌, ℕ, suc, ◌<◌, Bool, true, false, not, ◌&&◌, ◌||◌, eqb, eqb-true, List, [], ◌∷◌, length, get_or, take, ℤ, pos, cond, inl, inr, refl, sym, ap, ◌∙◌, rules}
use Rattle.std.proofs.Math.Bool.{or-true}
use Rattle.std.proofs.lemmas.Bool.{cases_Bool, both_ways}
use Rattle.std.specs.Ordering.{nat_cmp}
use Rattle.std.specs.FinSet as set
use Rattle.hibits.specs.Sets.{Layered}
use Rattle.entities.specs.declared.entity.Entity.{Entity}
use Rattle.std.specs.Prelude.{nat_abs}
use Rattle.std.specs.List.{Contains}
use Rattle.std.proofs.lemmas.Option.{slice_get-get_or}
use Rattle.entities.specs.Lowered.{IsOneOf, AreDistinctOf}
use Rattle.entities.proofs.Kept.Stack.{alive_at}
use Rattle.entities.proofs.Kept.Sets.{lives_is}
use Rattle.entities.specs.Population.{IsAlive, born, born_pending, born_as, mark}
use Rattle.entities.specs.Census.{Census, population, living_of, has}
use Rattle.entities.specs.Deaths.{all_dead, has_index, MayAllDie, IsFirstRefused}
use Rattle.entities.specs.Kept.{AreSets}
use Rattle.entities.proofs.Kept.Sets.{same_population, has-insert, has-remove}
use Rattle.entities.proofs.Kept.Stack.{IsRevived, IsBuried}

abbrev pub Members : Type 0
Members = set.FinSet nat_cmp

abbrev pub census : List ℤ → Members → Members → Census
census gs r k = record { generations = gs; free = []; raised = r; killed = k; room = 0 }

-- a set without i, at j
gone : (s : Members) (i : ℕ) → has s i ≡ false → (j : ℕ) → eqb j i ≡ true → has s j ≡ false
gone s i off j e = ap (has s) (eqb-true j i e) ∙ off

dead_there : (gs : List ℤ) (i : ℕ) → living_of gs i ≡ false → (j : ℕ) → eqb j i ≡ true → living_of gs j ≡ false
dead_there gs i off j e = ap (living_of gs) (eqb-true j i e) ∙ off

out_and : (e l r : Bool) → (e ≡ true → r ≡ false) → ((e || l) && r) ≡ (l && r)
out_and true true r h = refl
out_and true false r h = h refl
out_and false l r h = refl

out_not : (e l r : Bool) → (e ≡ true → r ≡ false) → ((e || l) && not r) ≡ (e || (l && not r))
out_not true l r h = rw (h refl) refl
out_not false l r h = refl

in_not : (e l r : Bool) → (e ≡ true → l ≡ false) → ((e || l) && not (e || r)) ≡ (l && not r)
in_not true l r h = rw (h refl) refl
in_not false l r h = refl

in_and : (e l r : Bool) → ((e || l) && (e || r)) ≡ (e || (l && r))
in_and true l r = refl
in_and false l r = refl

pub population_born : (gs gs' : List ℤ) (r k : Members) (i : ℕ) → IsRevived gs i gs' → has r i ≡ false → has k i ≡ false → population (census gs' r k) ≡ born (population (census gs r k)) i
population_born gs gs' r k i v nr nk = same_population _ _ v.births
    (λ j. ap (λ b. b && not (has r j)) (v.living j) ∙ out_not (eqb j i) _ _ (gone r i nr j))
    (λ j. ap (λ b. b && has r j) (v.living j) ∙ out_and (eqb j i) _ _ (gone r i nr j))
    (λ j. ap (λ b. b && has k j) (v.living j) ∙ out_and (eqb j i) _ _ (gone k i nk j))

pub population_born_pending : (gs gs' : List ℤ) (r k : Members) (i : ℕ) → IsRevived gs i gs' → has r i ≡ false → has k i ≡ false → population (census gs' (set.insert r i) k) ≡ born_pending (population (census gs r k)) i
population_born_pending gs gs' r k i v nr nk = same_population _ _ v.births
    (λ j. ap (λ b. b && not (has (set.insert r i) j)) (v.living j) ∙ ap (λ b. (eqb j i || living_of gs j) && not b) (has-insert r i j) ∙ in_not (eqb j i) _ _ (dead_there gs i v.dead j))
    (λ j. ap (λ b. b && has (set.insert r i) j) (v.living j) ∙ ap (λ b. (eqb j i || living_of gs j) && b) (has-insert r i j) ∙ in_and (eqb j i) _ _)
    (λ j. ap (λ b. b && has k j) (v.living j) ∙ out_and (eqb j i) _ _ (gone k i nk j))

pub population_marked : (gs : List ℤ) (r k : Members) (i : ℕ) → living_of gs i ≡ true → population (census gs r (set.insert k i)) ≡ mark (population (census gs r k)) i
population_marked gs r k i alive = same_population _ _ (λ _. refl) (λ _. refl) (λ _. refl)
    (λ j. ap (λ b. living_of gs j && b) (has-insert k i j) ∙ within (eqb j i) _ _ (λ e. ap (living_of gs) (eqb-true j i e) ∙ alive))
  where
    within : (e l k : Bool) → (e ≡ true → l ≡ true) → (l && (e || k)) ≡ (e || (l && k))
    within true l k h = rw (h refl) refl
    within false l k h = refl

pub population_buried : (gs gs' : List ℤ) (r k : Members) (e : Entity) → IsBuried gs e.0 gs' → population (census gs' (set.remove r e.0) (set.remove k e.0)) ≡ all_dead (e ∷ []) (population (census gs r k))
population_buried gs gs' r k e b = same_population _ _ b.births
    (λ j. ap (λ x. x && not (has (set.remove r e.0) j)) (b.living j) ∙ ap (λ x. (not (eqb j e.0) && living_of gs j) && not x) (has-remove r e.0 j) ∙ apart_not (eqb j e.0) _ _ ∙ other_way _ j)
    (λ j. ap (λ x. x && has (set.remove r e.0) j) (b.living j) ∙ ap (λ x. (not (eqb j e.0) && living_of gs j) && x) (has-remove r e.0 j) ∙ apart_and (eqb j e.0) _ _ ∙ other_way _ j)
    (λ j. ap (λ x. x && has (set.remove k e.0) j) (b.living j) ∙ ap (λ x. (not (eqb j e.0) && living_of gs j) && x) (has-remove k e.0 j) ∙ apart_and (eqb j e.0) _ _ ∙ other_way _ j)
  where
    apart_not : (x l r : Bool) → ((not x && l) && not (not x && r)) ≡ ((l && not r) && not (x || false))
    apart_not true true true = refl
    apart_not true true false = refl
    apart_not true false r = refl
    apart_not false true true = refl
    apart_not false true false = refl
    apart_not false false r = refl

    apart_and : (x l r : Bool) → ((not x && l) && (not x && r)) ≡ ((l && r) && not (x || false))
    apart_and true true true = refl
    apart_and true true false = refl
    apart_and true false r = refl
    apart_and false true true = refl
    apart_and false true false = refl
    apart_and false false r = refl

    flip : (a b : ℕ) → eqb a b ≡ eqb b a
    flip a b = search rules

    other_way : (s : Bool) (j : ℕ) → (s && not (eqb j e.0 || false)) ≡ (s && not (has_index (e ∷ []) j))
    other_way s j = ap (λ x. s && not (x || false)) (flip j e.0)

not_there : (gs : List ℤ) (s : Members) (i : ℕ) → ((j : ℕ) → has s j ≡ true → living_of gs j ≡ true) → living_of gs i ≡ false → has s i ≡ false
not_there gs s i within off = elim (cases_Bool (has s i)) [
  | inl t ↦ absurd (both_ways _ off (within i t))
  | inr f ↦ f
]

pub population_born_as : (pending : Bool) (gs gs' : List ℤ) (a r k r' k' : Layered) (i : ℕ) → AreSets gs a r k → IsRevived gs i gs' → r'.members ≡ cond pending (set.insert r.members i) r.members → k'.members ≡ k.members → population (census gs' r'.members k'.members) ≡ born_as pending (population (census gs r.members k.members)) i
population_born_as true gs gs' a r k r' k' i s v er ek = rw (er, ek) (population_born_pending gs gs' r.members k.members i v (not_there gs r.members i s.pending v.dead) (not_there gs k.members i s.marked v.dead))
population_born_as false gs gs' a r k r' k' i s v er ek = rw (er, ek) (population_born gs gs' r.members k.members i v (not_there gs r.members i s.pending v.dead) (not_there gs k.members i s.marked v.dead))

still_lives : (gs gs' : List ℤ) (i j : ℕ) → IsRevived gs i gs' → living_of gs j ≡ true → living_of gs' j ≡ true
still_lives gs gs' i j v l = v.living j ∙ rw l (or-true (eqb j i))

lives_now : (gs gs' : List ℤ) (r : Members) (i j : ℕ) → IsRevived gs i gs' → ((j : ℕ) → has r j ≡ true → living_of gs j ≡ true) → (eqb j i || has r j) ≡ true → living_of gs' j ≡ true
lives_now gs gs' r i j v within e = v.living j ∙ either (eqb j i) (has r j) (living_of gs j) (within j) e
  where
    either : (x r l : Bool) → (r ≡ true → l ≡ true) → (x || r) ≡ true → (x || l) ≡ true
    either true r l h e = refl
    either false r l h e = h e

pub sets_born_as : (pending : Bool) (gs gs' : List ℤ) (a r k a' r' k' : Layered) (i : ℕ) → AreSets gs a r k → IsRevived gs i gs' → a'.members ≡ cond pending a.members (set.insert a.members i) → r'.members ≡ cond pending (set.insert r.members i) r.members → k'.members ≡ k.members → AreSets gs' a' r' k'
sets_born_as true gs gs' a r k a' r' k' i s v ea er ek = record {
  merged = λ j. rw (ea, er) (s.merged j ∙ sym (ap (λ b. b && not (has (set.insert r.members i) j)) (v.living j) ∙ ap (λ b. (eqb j i || living_of gs j) && not b) (has-insert r.members i j) ∙ in_not (eqb j i) _ _ (dead_there gs i v.dead j)));
  pending = λ j h. lives_now gs gs' r.members i j v s.pending (sym (has-insert r.members i j) ∙ rw er at h);
  marked = λ j h. still_lives gs gs' i j v (s.marked j (rw ek at h));
}
sets_born_as false gs gs' a r k a' r' k' i s v ea er ek = record {
  merged = λ j. rw (ea, er) (has-insert a.members i j ∙ ap (λ b. eqb j i || b) (s.merged j) ∙ sym (ap (λ b. b && not (has r.members j)) (v.living j) ∙ out_not (eqb j i) _ _ (gone r.members i (not_there gs r.members i s.pending v.dead) j)));
  pending = λ j h. still_lives gs gs' i j v (s.pending j (rw er at h));
  marked = λ j h. still_lives gs gs' i j v (s.marked j (rw ek at h));
}

pub sets_marked : (gs : List ℤ) (a r k k' : Layered) (i : ℕ) → AreSets gs a r k → living_of gs i ≡ true → k'.members ≡ set.insert k.members i → AreSets gs a r k'
sets_marked gs a r k k' i s alive ek = record {
  merged = s.merged;
  pending = s.pending;
  marked = λ j h. within (eqb j i) (has k.members j) (λ e. ap (living_of gs) (eqb-true j i e) ∙ alive) (s.marked j) (sym (has-insert k.members i j) ∙ rw ek at h);
}
  where
    within : {P : Type 0} (x k : Bool) → (x ≡ true → P) → (k ≡ true → P) → (x || k) ≡ true → P
    within true k f g e = f refl
    within false k f g e = g e

pub sets_buried : (gs gs' : List ℤ) (a r k a' r' k' : Layered) (i : ℕ) → AreSets gs a r k → IsBuried gs i gs' → a'.members ≡ set.remove a.members i → r'.members ≡ set.remove r.members i → k'.members ≡ set.remove k.members i → AreSets gs' a' r' k'
sets_buried gs gs' a r k a' r' k' i s b ea er ek = record {
  merged = λ j. rw (ea, er, has-remove a.members i j, has-remove r.members i j, s.merged j, b.living j) (apart (eqb j i) (living_of gs j) (has r.members j));
  pending = λ j h. b.living j ∙ both (eqb j i) _ _ (s.pending j) (sym (has-remove r.members i j) ∙ rw er at h);
  marked = λ j h. b.living j ∙ both (eqb j i) _ _ (s.marked j) (sym (has-remove k.members i j) ∙ rw ek at h);
}
  where
    apart : (x l r : Bool) → (not x && (l && not r)) ≡ ((not x && l) && not (not x && r))
    apart true l r = refl
    apart false l r = refl

    both : (x r l : Bool) → (r ≡ true → l ≡ true) → (not x && r) ≡ true → (not x && l) ≡ true
    both true r l h e = e
    both false r l h e = h e

-- one that is alive stands in the generations
pub stands : (c : Census) (e : Entity) → IsAlive (population c) e → (m : ℕ) × (get_or c.generations e.0 (pos 0) ≡ pos (suc m)) × (e.0 < length c.generations) × (e.1.0 ≡ pos (suc m)) × (living_of c.generations e.0 ≡ true)
stands c e a =
    let l = sym (lives_is c e.0) ∙ a.0 in
    let at = alive_at c.generations e.0 l in
    (at.0, at.1, at.2, a.1 ∙ ap (λ z. pos (nat_abs z)) at.1, l)

pub all_may_die : (c : Census) (es : List Entity) → AreDistinctOf c.generations es → MayAllDie (population c) es
all_may_die c es h = (λ k d lt. (lives_is c (get_or es k d).0 ∙ (h.0 k d lt).0, (h.0 k d lt).1), h.1)

pub first_refused : (c : Census) (es : List Entity) (n : ℕ) (d : Entity) → n < length es → AreDistinctOf c.generations (take n es) → (IsOneOf c.generations (get_or es n d) → Contains (take n es) (get_or es n d)) → IsFirstRefused (population c) es (get_or es n d)
first_refused c es n d lt h stopped = (n, (slice_get-get_or es n d lt, λ alive. stopped (sym (lives_is c (get_or es n d).0) ∙ alive.0, alive.1)), all_may_die c (take n es) h)

pub sets_taken_up : (gs : List ℤ) (a r k a' r' : Layered) → AreSets gs a r k → ((j : ℕ) → has a'.members j ≡ (has a.members j || has r.members j)) → r'.members ≡ set.empty → AreSets gs a' r' k
sets_taken_up gs a r k a' r' s ea er = record {
  merged = λ j. ea j ∙ ap (λ b. b || has r.members j) (s.merged j) ∙ joined (living_of gs j) (has r.members j) (s.pending j) ∙ ap (λ b. living_of gs j && not b) (sym (none j));
  pending = λ j h. absurd (both_ways _ (none j) h);
  marked = s.marked;
}
  where
    none : (j : ℕ) → has r'.members j ≡ false
    none j = ap (λ m. has m j) er ∙ set.contains-empty nat_cmp j

    joined : (l r : Bool) → (r ≡ true → l ≡ true) → ((l && not r) || r) ≡ (l && not false)
    joined true true h = refl
    joined true false h = refl
    joined false true h = sym (h refl)
    joined false false h = refl

pub sets_empty : (gs : List ℤ) (a r k : Layered) → gs ≡ [] → a.members ≡ set.empty → r.members ≡ set.empty → k.members ≡ set.empty → AreSets gs a r k
sets_empty gs a r k e ea er ek = record {
  merged = λ j. rw (e, ea) (set.contains-empty nat_cmp j);
  pending = λ j h. absurd (both_ways _ (set.contains-empty nat_cmp j) (rw er at h));
  marked = λ j h. absurd (both_ways _ (set.contains-empty nat_cmp j) (rw ek at h));
}
