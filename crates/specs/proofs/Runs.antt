-- A run goes on by one step.
use Rattle.std.proofs.Common.{◌≡◌, List, [], ◌∷◌, ◌++◌, refl, ap, ◌∙◌, subst}
use Rattle.std.specs.Iterator.{Yields}
use Rattle.std.specs.Vec.Iter.{into_iter_items, into_iter_steps}
use Rattle.std.specs.declared.vec.IntoIter.{IntoIter}
use Rattle.specs.specs.Slots.Clones.{Clones}
use Rattle.specs.specs.declared.command.Command.{Command}
use Rattle.specs.specs.declared.command.Reply.{Reply}
use Rattle.specs.specs.declared.job.Job.{Job}
use Rattle.specs.specs.World.State.{State}
use Rattle.specs.specs.Job.Steps.{WorldState, Step, Run}
use Rattle.specs.specs.Slots.Marks.{Markers}

module _ {S J K V : Type 0} (place : V → K) (clones : Clones K V) (marks : Markers K V) (does : J → State K V → List (Job S J K V) → State K V → Type 0) (wants : J → State K V → Type 0) where
  pub run_more : (a b d : WorldState S J K V) (cs : List (Command S J K V)) (rs : List (Reply V)) (c : Command S J K V) (r : Reply V) → Run place clones marks does wants a cs rs b → Step place clones marks does wants b c r d → Run place clones marks does wants a (cs ++ c ∷ []) (rs ++ r ∷ []) d
  run_more a b d [] [] c r run step = (d, subst (λ (s : WorldState S J K V). Step place clones marks does wants s c r d) run step, refl)
  run_more a b d [] (x ∷ rs) c r run step = absurd run
  run_more a b d (x ∷ cs) [] c r run step = absurd run
  run_more a b d (x ∷ cs) (y ∷ rs) c r run step = (run.0, run.1, run_more run.0 b d cs rs c r run.2 step)

-- what the iterator of a vector has given is a front of its items
pub taken_front : {X A : Type 0} (s : IntoIter X A) (xs : List X) (t : IntoIter X A) → Yields into_iter_steps s xs t → into_iter_items s ≡ xs ++ into_iter_items t
taken_front s [] t y = ap into_iter_items y
taken_front s (x ∷ xs) t y = y.1.0 ∙ ap (λ ys. x ∷ ys) (taken_front y.0 xs t y.2)
