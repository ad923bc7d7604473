-- What the answers of a phase tell, in other words.
use Rattle.std.proofs.Common.{ℕ, List, [], ◌∷◌}
use Rattle.std.specs.Prelude.{Result, Ok, Err, IfOk}
use Rattle.std.specs.List.{AllZip}
use Rattle.entities.specs.declared.phase.pass.Pass.{Pass}
use Rattle.entities.specs.declared.phase.shared.Closed.{Closed}
use Rattle.entities.specs.Population.{Population}
use Rattle.entities.specs.Phase.Trace.{Phase}
use Rattle.phase_threads.specs.Phases.{RanAPhase}

-- a relation that says another, of each pass and its answer
each_pair : {A : Type 0} (R S : Pass → A → Type 0) → ((p : Pass) (a : A) → R p a → S p a) → (ps : List Pass) (answers : List A) → AllZip R ps answers → AllZip S ps answers
each_pair R S so [] [] h = tt
each_pair R S so [] (a ∷ answers) h = absurd h
each_pair R S so (p ∷ ps) [] h = absurd h
each_pair R S so (p ∷ ps) (a ∷ answers) h = (so p a h.0, each_pair R S so ps answers h.1)

-- where one says the other, a phase whose answers tell the one is a phase whose answers tell the other
pub retold : {A : Type 0} (R S : Phase → Pass → A → Type 0) → ((o : Phase) (p : Pass) (a : A) → R o p a → S o p a) → (reserve passes : ℕ) (before after : Population) (closed : Closed) (answers : List A) → RanAPhase R reserve passes before after closed answers → RanAPhase S reserve passes before after closed answers
retold R S so reserve passes before after closed answers h = record {
  phase = h.phase;
  opening = h.opening;
  sizes = h.sizes;
  next_births = h.next_births;
  sound = h.sound;
  ran = record {
    ends = h.ran.ends;
    came_back = h.ran.came_back;
    told = each_pair (R h.phase) (S h.phase) (so h.phase) h.ran.ends answers h.ran.told;
    closes = h.ran.closes;
    once = h.ran.once;
    taken_up = h.ran.taken_up;
    theirs = h.ran.theirs;
    used_up = h.ran.used_up;
  };
}

pub if_ok : {T E : Type 0} (r : Result T E) (P Q : T → Type 0) → ((x : T) → P x → Q x) → IfOk r P → IfOk r Q
if_ok (Ok x) P Q so h = so x h
if_ok (Err e) P Q so h = tt
