-- What a closed phase keeps: each index with a value lives, and who is gone stays gone.
use Rattle.std.proofs.Common.{◌≡◌, ℕ, zero, suc, ◌+◌, ◌<◌, Bool, true, false, ◌||◌, ◌==◌, cond, List, [], ◌∷◌, take, refl, subst, inl, inr, Some, arith}
use Rattle.std.specs.Prelude.{◌⊎◌, slice_get}
use Rattle.std.proofs.lemmas.Bool.{false≢true}
use Rattle.std.proofs.lemmas.Bool.Decides.{nat_tests}
use Rattle.hibits.specs.declared.limits.TheConstants.{INDEX_LIMIT}
use Rattle.entities.specs.declared.entity.Entity.{Entity}
use Rattle.entities.specs.declared.phase.trace.Line.{Line}
use Rattle.entities.specs.Deaths.{has_index}
use Rattle.entities.specs.Population.{Population, index_of}
use Rattle.entities.specs.Phase.Calls.{IsClosed}
use Rattle.entities.specs.Phase.Reserve.{IsReserve, with_births, with_marks}
use Rattle.entities.specs.Phase.Trace.{Phase, in_marks, run, start}
use Rattle.specs.specs.Laws.Gone.{KeepsGone}
use Rattle.specs.specs.Laws.Reached.{KeepsLiving}
use Rattle.specs.specs.World.State.{State}
use Rattle.specs.proofs.Gone.{Grows, grown_to}

-- an index of the first of a list is below the limit, as each of the list is
index_below : (es : List Entity) → ((t : ℕ) (e : Entity) → slice_get es t ≡ Some e → index_of e < INDEX_LIMIT) → (n j : ℕ) → has_index (take n es) j ≡ true → j < INDEX_LIMIT
index_below [] below zero j h = absurd (false≢true h)
index_below [] below (suc n) j h = absurd (false≢true h)
index_below (e ∷ es) below zero j h = absurd (false≢true h)
index_below (e ∷ es) below (suc n) j h =
    elim (e.0 == j) as (λ b. (e.0 == j) ≡ b → (b || has_index (take n es) j) ≡ true → j < INDEX_LIMIT) [
      | true ↦ λ is _. subst (λ k. k < INDEX_LIMIT) (grind (arith, nat_tests, is)) (below 0 e refl)
      | false ↦ λ _ rest. index_below es (λ t. below (suc t)) n j rest
    ] refl h

unborn : (a b : Bool) → (a || (b || false)) ≡ true → (a || b) ≡ true
unborn true b e = refl
unborn false true e = refl
unborn false false e = e

still : (a b d : Bool) → (a || b) ≡ true → (a || (b || d)) ≡ true
still true b d e = refl
still false true d e = refl
still false false d e = absurd (false≢true e)

-- births and marks: at each index there was a birth, or the same lives
phase_grows : (es : List Entity) (m : ℕ → Bool) (p : Population) → Grows p (with_marks m (with_births es p))
phase_grows es m p j = elim (has_index es j) as (λ b. (p.births j < cond b (p.births j + 1) (p.births j)) ⊎ ((cond b (p.births j + 1) (p.births j) ≡ p.births j) × ((p.merged j || (p.pending j || b)) ≡ true → (p.merged j || p.pending j) ≡ true))) [
  | true ↦ inl (omega arith)
  | false ↦ inr (refl, unborn (p.merged j) (p.pending j))
]

gone_then : (p q : Population) (es : List Entity) (m : ℕ → Bool) → q ≡ with_marks m (with_births es p) → KeepsGone p q
gone_then p q es m is e was = grown_to p (with_marks m (with_births es p)) q e is (phase_grows es m p) was

pub phase_gone : (p q : Population) (o : Phase) (back : List Line) (births marks : ℕ) → IsClosed o back p q births marks → KeepsGone p q
phase_gone p q o back births marks closed = gone_then p q (take births o.reserve) (λ i. in_marks i (run start closed.trace).marks) closed.leaves

module _ {K V : Type 0} where
  with_phase : (old new : State K V) (es : List Entity) (m : ℕ → Bool) → ((j : ℕ) → has_index es j ≡ true → j < INDEX_LIMIT) → new.people ≡ with_marks m (with_births es old.people) → new.table ≡ old.table → KeepsLiving old new
  with_phase old new es m limit people table w = record {
    values = rw (people, table) (λ slot c i is has. still (old.people.merged i) (old.people.pending i) (has_index es i) (w.values slot c i is has));
    born = rw people (λ i. elim (has_index es i) as (λ b. (old.people.merged i || (old.people.pending i || b)) ≡ true → 0 < cond b (old.people.births i + 1) (old.people.births i)) [
      | true ↦ λ _. omega arith
      | false ↦ λ h. w.born i (unborn (old.people.merged i) (old.people.pending i) h)
    ]);
    below = rw people (λ i. elim (has_index es i) as (λ b. has_index es i ≡ b → 0 < cond b (old.people.births i + 1) (old.people.births i) → i < INDEX_LIMIT) [
      | true ↦ λ is _. limit i is
      | false ↦ λ _ h. w.below i h
    ] refl);
  }

  pub phase_living : (old new : State K V) (o : Phase) (back : List Line) (births marks : ℕ) → IsReserve old.people o.reserve → IsClosed o back old.people new.people births marks → new.table ≡ old.table → KeepsLiving old new
  phase_living old new o back births marks reserve closed table = with_phase old new (take births o.reserve) _ (index_below o.reserve reserve.below births) closed.leaves table
