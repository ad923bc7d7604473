-- One job more.
use Rattle.std.proofs.Common.{◌≡◌, ℕ, zero, suc, ◌+◌, List, [], ◌∷◌, ◌++◌, refl, sym, ap, ◌∙◌, subst, arith, add-one}
use Rattle.specs.specs.World.State.{State}
use Rattle.specs.specs.declared.job.Job.{Job}
use Rattle.specs.specs.Job.Jobs.{Ran, JobStep}
use Rattle.specs.specs.Slots.Marks.{Markers}

module _ {S J K V : Type 0} (place : V → K) (marks : Markers K V) (does : J → State K V → List (Job S J K V) → State K V → Type 0) where
  pub ran_more : (n counted here : ℕ) (old mid new : State K V) (jobs now left more : List (Job S J K V)) (job : Job S J K V)
      → Ran place marks does n counted old jobs mid now → now ≡ job ∷ left → JobStep place marks does mid job here more new → Ran place marks does (suc n) (counted + here) old jobs new (left ++ more)
  ran_more zero counted here old mid new [] now left more job ran is step = absurd (apart (sym ran.2 ∙ is))
    where
      apart : [] ≡ job ∷ left → ⊥
      apart e = cc
  ran_more zero counted here old mid new (j ∷ jobs) now left more job ran is step =
      let same : j ∷ jobs ≡ job ∷ left = sym ran.2 ∙ is in
      let first : job ≡ j = cc in
      let rest : left ≡ jobs = cc in
      let step' : JobStep place marks does old j here more new = subst (λ (s : State K V). JobStep place marks does s j here more new) ran.1 (subst (λ (x : Job S J K V). JobStep place marks does mid x here more new) first step) in
      (new, more, here, 0, step', (refl, refl, ap (λ xs. xs ++ more) rest), omega (arith, ran.0))
  ran_more (suc n) counted here old mid new [] now left more job ran is step = absurd ran
  ran_more (suc n) counted here old mid new (j ∷ jobs) now left more job ran is step =
      (ran.0, ran.1, ran.2, ran.3 + here, ran.4, ran_more n ran.3 here ran.0 mid new (jobs ++ ran.1) now left more job ran.5 is step, omega (arith, ran.6))

  -- the same, with the count as code has it
  pub ran_one_more : (n counted here : ℕ) (old mid new : State K V) (jobs now left more : List (Job S J K V)) (job : Job S J K V)
      → Ran place marks does n counted old jobs mid now → now ≡ job ∷ left → JobStep place marks does mid job here more new → Ran place marks does (n + 1) (counted + here) old jobs new (left ++ more)
  ran_one_more n counted here old mid new jobs now left more job ran is step = rw add-one (ran_more n counted here old mid new jobs now left more job ran is step)
