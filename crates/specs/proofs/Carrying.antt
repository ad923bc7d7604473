-- What insertions, removals and jobs of the user's keep, a run of jobs keeps.
use Rattle.std.proofs.Common.{◌≡◌, ℕ, zero, suc, Bool, true, false, List, [], ◌∷◌, ◌++◌, sym, ap, ◌∙◌, refl, inl, inr, subst, Option, Some, None}
use Rattle.std.specs.Prelude.{MatchOption}
use Rattle.entities.specs.declared.entity.Entity.{Entity}
use Rattle.entities.specs.Population.{Population, index_of}
use Rattle.specs.specs.declared.job.Job.{Job}
use Rattle.specs.specs.declared.job.Job.TheVariants.{Insert, InsertAll, Remove, Mark, Own}
use Rattle.specs.specs.Slots.Column.{Column}
use Rattle.specs.specs.Reading.Following.{Each}
use Rattle.specs.specs.Job.Jobs.{InsertStep, InsertsAll, MarkStep, JobStep, JobStops, Ran, RunsJobs}
use Rattle.specs.specs.Slots.Ids.{Ids}
use Rattle.specs.specs.World.State.{State, OnTable}
use Rattle.specs.specs.World.Marking.{GivesMarkerIn}
use Rattle.specs.specs.Slots.Marks.{Markers, GetsMarker}
use Rattle.specs.specs.Slots.Table.{Table, Inserts, Removes}

pub each_more : {X : Type 0} (Q : X → Type 0) (xs ys : List X) → Each Q xs → Each Q ys → Each Q (xs ++ ys)
each_more Q [] ys a b = b
each_more Q (x ∷ xs) ys a b = (a.0, each_more Q xs ys a.1 b)

pub each_unit : {X : Type 0} (xs : List X) → Each (λ _. Unit {0}) xs
each_unit [] = tt
each_unit (x ∷ xs) = (tt, each_unit xs)

-- a marker that is given is a value that is inserted in its slot
gets : {K V : Type 0} (Comes : V → Type 0) (p : Population) (old : Table K V) (slot : K) (e : Entity) (new : Table K V) (g : GetsMarker Comes p old slot e new) → Inserts (λ _. slot) p old e g.value (g.column.values (index_of e)) new
gets Comes p old slot e new g = record { column = g.column; registered = g.registered; alive = g.alive; told = refl; put = g.put }

unchanged : {K V : Type 0} (old new : State K V) → new.people ≡ old.people → new.table ≡ old.table → new.ids ≡ old.ids → new ≡ old
unchanged {K} {V} old new p t i =
    ap (λ (q : Population). record { people = q; table = new.table; ids = new.ids }) p ∙ ap (λ (u : Table K V). record { people = old.people; table = u; ids = new.ids }) t
    ∙ ap (λ (j : Ids K). record { people = old.people; table = old.table; ids = j }) i

module _ {S J K V : Type 0} (place : V → K) (marks : Markers K V) (does : J → State K V → List (Job S J K V) → State K V → Type 0) (wants : J → State K V → Type 0) (P : State K V → Type 0) (Q : Job S J K V → Type 0)
    (whatever_ids : (s : State K V) (ids : Ids K) → P s → P (record s { ids = ids }))
    (inserted : (place : V → K) (old new : State K V) (e : Entity) (value : V) (before : Option V) → OnTable (λ t t'. Inserts place old.people t e value before t') old new → P old → P new)
    (removed : (old new : State K V) (slot : K) (e : Entity) (found : Option V) → OnTable (λ t t'. Removes old.people t slot e found t') old new → P old → P new)
    (own : (j : J) (old new : State K V) (more : List (Job S J K V)) → Q (Own j) → does j old more new → P old → P new × Each Q more)
    (rests : (pairs rest : _) → Q (InsertAll pairs) → Q (InsertAll rest)) where
  same : (old new : State K V) → new ≡ old → P old → P new
  same old new is w = subst P (sym is) w

  insert : (old new : State K V) (e : Entity) (value : V) (counted : Bool) → InsertStep place old e value counted new → P old → P new
  insert old new e value false s w = inserted place old new e value s.0 s.1 w
  insert old new e value true s w = same old new s.1 w

  inserts : (pairs : List (Entity × V)) (n : ℕ) (old new : State K V) → InsertsAll place old pairs n new → P old → P new
  inserts [] n old new s w = same old new s.1 w
  inserts (p ∷ pairs) n old new s w = inserts pairs s.2 s.0 new s.4 (insert old s.0 p.0 p.1 s.1 s.3 w)

  remove : (old new : State K V) (slot : K) (e : Entity) (o : Option (Column V)) → MatchOption o (new ≡ old) (λ _. (found : Option V) × OnTable (λ t t'. Removes old.people t slot e found t') old new) → P old → P new
  remove old new slot e None s w = same old new s w
  remove old new slot e (Some c) s w = removed old new slot e s.0 s.1 w

  -- a new marker is an insertion in its slot
  given : (old new : State K V) (slot : K) (e : Entity) (is_new : Bool) → GivesMarkerIn marks slot e (Some is_new) old new → P old → P new
  given old new slot e false s w = same old new (unchanged old new s.people s.table.1 s.ids) w
  given old new slot e true s w =
      let put : State K V = record new { ids = old.ids } in
      whatever_ids put new.ids (inserted (λ _. slot) old put e s.table.value (s.table.column.values (index_of e)) (record { people = s.people; table = gets (marks.comes slot (old.ids slot)) old.people old.table slot e new.table s.table; ids = refl }) w)

  mark : (old new : State K V) (slot : K) (e : Entity) (counted : Bool) → MarkStep marks old slot e counted new → P old → P new
  mark old new slot e false s w = given old new slot e s.1 s.2 w
  mark old new slot e true (inl s) w = same old new (unchanged old new s.1.people s.1.table.2 s.1.ids) w
  mark old new slot e true (inr s) w = same old new s.1 w

  one : (old new : State K V) (job : Job S J K V) (n : ℕ) (more : List (Job S J K V)) → JobStep place marks does old job n more new → Q job → P old → P new × Each Q more
  one old new (Insert e value) n more s q w = (insert old new e value s.1 s.3 w, subst (Each Q) (sym s.0) tt)
  one old new (InsertAll pairs) n more s q w = (inserts pairs.items n old new s.1 w, subst (Each Q) (sym s.0) tt)
  one old new (Remove slot e) n more s q w = (remove old new slot e (old.table slot) s.2 w, subst (Each Q) (sym s.0) tt)
  one old new (Mark slot e) n more s q w = (mark old new slot e s.1 s.3 w, subst (Each Q) (sym s.0) tt)
  one old new (Own j) n more s q w = own j old new more q s.1 w

  stop : (old new : State K V) (job : Job S J K V) (n : ℕ) (kept : Job S J K V) → JobStops place marks does wants old job n kept new → Q job → P old → P new × Q kept
  stop old new (Insert e value) n kept s q w = (same old new s.3 w, subst Q (sym s.0) q)
  stop old new (InsertAll pairs) n (InsertAll rest) s q w = (inserts s.done n old new s.inserted w, rests pairs rest q)
  stop old new (Remove slot e) n kept s q w = (same old new s.3 w, subst Q (sym s.0) q)
  stop old new (Mark slot e) n kept s q w = (same old new s.3 w, subst Q (sym s.0) q)
  stop old new (Own j) n kept s q w = (same old new s.3 w, subst Q (sym s.0) q)
  stop old new job n kept s q w = absurd s

  ran : (n counted : ℕ) (old new : State K V) (jobs left : List (Job S J K V)) → Ran place marks does n counted old jobs new left → Each Q jobs → P old → P new × Each Q left
  ran zero counted old new jobs left s q w = (same old new s.1 w, subst (Each Q) (sym s.2) q)
  ran (suc n) counted old new [] left s q w = absurd s
  ran (suc n) counted old new (job ∷ jobs) left s q w =
      let first = one old s.0 job s.2 s.1 s.4 q.0 w in
      ran n s.3 s.0 new (jobs ++ s.1) left s.5 (each_more Q jobs s.1 q.1 first.1) first.0

  pub carried : (stopped : Bool) (limit count counted : ℕ) (old new : State K V) (jobs left : List (Job S J K V)) → RunsJobs place marks does wants stopped limit count counted old jobs new left → Each Q jobs → P old → P new × Each Q left
  carried false limit count counted old new jobs left s q w = ran count counted old new jobs left s.ran_all q w
  carried true limit count counted old new jobs left s q w =
      let before = ran count s.counted old s.before jobs (s.job ∷ s.rest) s.ran_before q w in
      let last = stop s.before new s.job s.last s.kept s.stops before.1.0 before.0 in
      (last.0, subst (Each Q) (sym s.queue) (last.1, before.1.1))
