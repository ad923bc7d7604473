-- What a caller learns of the answers of a phase.
use Rattle.std.specs.Prelude.{◌≡◌, ◌≢◌, ℕ, ◌<◌, Option, Some, None, List, [], ◌∷◌, length, IfSome, slice_index_or}
use Rattle.std.specs.List.{All, AllZip, AllPairs, Contains}
use Rattle.std.proofs.Common.{zero, suc, subst, arith, refl}
use Rattle.std.proofs.lemmas.List.Elements.{All-nil, All-cons, All-head, All-tail}
use Rattle.entities.specs.declared.entity.Entity.{Entity}
use Rattle.entities.specs.declared.phase.pass.Pass.{Pass}
use Rattle.entities.specs.declared.phase.shared.Closed.{Closed}
use Rattle.entities.specs.Population.{Population, IsAlive, index_of}
use Rattle.entities.specs.Phase.Trace.{Phase}
use Rattle.entities.specs.Phase.Given.{given_of, AreGivenOnce}
use Rattle.entities.specs.Phase.Laws.{given_apart}
use Rattle.phase_threads.specs.Phases.{RanAPhase}

-- a pass answers an entity that it was given, or none
abbrev pub AnswersItsOwn : Phase → Pass → Option Entity → Type 0
AnswersItsOwn phase pass answer = IfSome answer (λ e. Contains (given_of phase pass) e)

-- what holds of each pass and its answer, of each pass, and so of each answer
each_answer : {A : Type 0} (R : Pass → A → Type 0) (Q : Pass → Type 0) (P : A → Type 0) (so : (pass : Pass) (a : A) → Q pass → R pass a → P a) (passes : List Pass) (answers : List A) → AllZip R passes answers → All Q passes → All P answers
each_answer R Q P so [] [] told all = All-nil P
each_answer R Q P so [] (a ∷ answers) told all = absurd told
each_answer R Q P so (p ∷ passes) [] told all = absurd told
each_answer R Q P so (p ∷ passes) (a ∷ answers) told all =
    All-cons P a answers (so p a (All-head Q p passes all) told.0) (each_answer R Q P so passes answers told.1 (All-tail Q p passes all))

own_alive : (phase : Phase) (after : Population) (pass : Pass) (answer : Option Entity) → All (IsAlive after) (given_of phase pass) → AnswersItsOwn phase pass answer → IfSome answer (IsAlive after)
own_alive phase after pass None all own = tt
own_alive phase after pass (Some e) all own = subst (IsAlive after) own.2 (all own.0 e own.1)

-- where each pass answers an entity that it was given, or none, all that were answered live
pub answers_live : (reserve passes : ℕ) (before after : Population) (closed : Closed) (answers : List (Option Entity)) → RanAPhase AnswersItsOwn reserve passes before after closed answers → All (λ a. IfSome a (IsAlive after)) answers
answers_live reserve passes before after closed answers run =
    each_answer (AnswersItsOwn run.phase) (λ pass. All (IsAlive after) (given_of run.phase pass)) (λ a. IfSome a (IsAlive after)) (own_alive run.phase after) run.ran.ends answers run.ran.told run.ran.taken_up.alive

-- the pass of an answer
pass_at : {A : Type 0} (R : Pass → A → Type 0) (passes : List Pass) (answers : List A) → AllZip R passes answers → (k : ℕ) (d : A) → k < length answers → (pass : Pass) × (k < length passes) × ((q : Pass) → slice_index_or passes k q ≡ pass) × R pass (slice_index_or answers k d)
pass_at R [] [] told k d lt = absurd (omega (arith, lt))
pass_at R [] (a ∷ answers) told k d lt = absurd told
pass_at R (p ∷ passes) [] told k d lt = absurd told
pass_at R (p ∷ passes) (a ∷ answers) told zero d lt = (p, omega arith, λ q. refl, told.0)
pass_at R (p ∷ passes) (a ∷ answers) told (suc k) d lt = let r = pass_at R passes answers told.1 k d (omega (arith, lt)) in (r.0, omega (arith, r.1), r.2, r.3)

-- no two answers are of one index
abbrev pub AreOfTwo : Option Entity → Option Entity → Type 0
AreOfTwo a b = IfSome a (λ e. IfSome b (λ f. index_of e ≢ index_of f))

own_apart : (phase : Phase) (passes : List Pass) (j k : ℕ) (a b : Pass) (x y : Option Entity) → AreGivenOnce phase passes → j < k → k < length passes → slice_index_or passes j a ≡ a → slice_index_or passes k a ≡ b → AnswersItsOwn phase a x → AnswersItsOwn phase b y → AreOfTwo x y
own_apart phase passes j k a b None y once less lt at_j at_k has_x has_y = tt
own_apart phase passes j k a b (Some e) None once less lt at_j at_k has_x has_y = tt
own_apart phase passes j k a b (Some e) (Some f) once less lt at_j at_k has_x has_y = given_apart phase passes j k a b e f once less lt at_j at_k has_x has_y

pub answers_apart : (reserve passes : ℕ) (before after : Population) (closed : Closed) (answers : List (Option Entity)) → RanAPhase AnswersItsOwn reserve passes before after closed answers → AllPairs AreOfTwo answers
answers_apart reserve passes before after closed answers run j k d less lt =
    let a = pass_at (AnswersItsOwn run.phase) run.ran.ends answers run.ran.told j d (omega (arith, less, lt)) in
    let b = pass_at (AnswersItsOwn run.phase) run.ran.ends answers run.ran.told k d lt in
    own_apart run.phase run.ran.ends j k a.0 b.0 (slice_index_or answers j d) (slice_index_or answers k d) run.ran.once less b.1 (a.2 a.0) (b.2 a.0) a.3 b.3
