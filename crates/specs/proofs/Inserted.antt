-- One insertion more.
use Rattle.std.proofs.Common.{◌≡◌, ℕ, ◌+◌, Bool, List, [], ◌∷◌, ◌++◌, refl, sym, ap, ◌∙◌, subst, arith, append_assoc}
use Rattle.entities.specs.declared.entity.Entity.{Entity}
use Rattle.specs.specs.World.State.{State}
use Rattle.specs.specs.Job.Jobs.{InsertStep, InsertsAll, KeepsRest, FirstWantsRoom, InsertWantsRoom, count_of}

pub inserts_more : {K V : Type 0} (place : V → K) (old mid new : State K V) (done : List (Entity × V)) (n : ℕ) (e : Entity) (value : V) (counted : Bool)
    → InsertsAll place old done n mid → InsertStep place mid e value counted new → InsertsAll place old (done ++ (e, value) ∷ []) (n + count_of counted) new
inserts_more {K} {V} place old mid new [] n e value counted all step =
    (new, counted, 0, subst (λ (s : State K V). InsertStep place s e value counted new) all.1 step, (refl, refl), omega (arith, all.0))
inserts_more place old mid new (q ∷ qs) n e value counted all step =
    (all.0, all.1, all.2 + count_of counted, all.3, inserts_more place all.0 mid new qs all.2 e value counted all.4 step, omega (arith, all.5))

-- in a list of insertions, those before the left ones are done
pub record Inserting {K V : Type 0} (place : V → K) (old : State K V) (pairs left : List (Entity × V)) (n : ℕ) (now : State K V) : Type 0 where
  pub done : List (Entity × V)
  pub parts : pairs ≡ done ++ left
  pub inserted : InsertsAll place old done n now

pub insert_next : {K V : Type 0} (place : V → K) (old now new : State K V) (pairs left rest : List (Entity × V)) (n : ℕ) (e : Entity) (value : V) (counted : Bool)
    → Inserting place old pairs left n now → left ≡ (e, value) ∷ rest → InsertStep place now e value counted new → Inserting place old pairs rest (n + count_of counted) new
insert_next place old now new pairs left rest n e value counted h is step = record {
  done = h.done ++ (e, value) ∷ [];
  parts = h.parts ∙ ap (λ xs. h.done ++ xs) is ∙ sym (append_assoc h.done ((e, value) ∷ []) rest);
  inserted = inserts_more place old now new h.done n e value counted h.inserted step;
}

-- the rest is kept at an insertion that wants memory
pub keeps_rest : {K V : Type 0} (place : V → K) (old now new : State K V) (pairs left kept rest : List (Entity × V)) (n : ℕ) (e : Entity) (value : V)
    → Inserting place old pairs left n now → kept ≡ left → left ≡ (e, value) ∷ rest → InsertWantsRoom place now e value → new ≡ now → KeepsRest place old pairs n kept new
keeps_rest {K} {V} place old now new pairs left kept rest n e value h is first wants same = record {
  done = h.done;
  parts = h.parts ∙ ap (λ xs. h.done ++ xs) (sym is);
  inserted = subst (λ (s : State K V). InsertsAll place old h.done n s) (sym same) h.inserted;
  wants = subst (λ (s : State K V). FirstWantsRoom place s kept) (sym same) (subst (λ xs. FirstWantsRoom place now xs) (sym (is ∙ first)) wants);
}
