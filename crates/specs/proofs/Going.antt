-- Single calls go on by a step of the model.
use Rattle.std.proofs.Common.{◌≡◌, ◌∙◌, suc, Bool, Option, Some, None, List, [], ◌++◌, refl, sym, subst, inl, inr, append-nil, append_assoc, ap}
use Rattle.std.specs.Prelude.{Result, Ok, Err, OnOk, OnErr}
use Rattle.entities.specs.declared.entity.Entity.{Entity}
use Rattle.entities.specs.Population.{born, born_pending}
use Rattle.specs.specs.World.Dropping.{DropsComponents}
use Rattle.specs.specs.Builder.Building.{PutsAlone, MaybePuts}
use Rattle.specs.specs.Laws.Going.{OneStep, ComesOf, GoesOn, Lengthens}
use Rattle.specs.specs.Laws.GoingLaws.{any_marker}
use Rattle.specs.specs.World.Marking.{HasMarkerThen, GivesMarkerIn}
use Rattle.specs.specs.Slots.Marks.{Markers}
use Rattle.specs.specs.World.People.{Births, Marks}
use Rattle.specs.specs.World.State.{State, OnPeople, OnTable, Deletes, InsertsAlone, RemovesAlone}
use Rattle.specs.specs.Slots.Table.{Registers, Inserts, Clears}

module _ {K V : Type 0} where
  pub begins : (s : State K V) → ComesOf s s
  begins s = record { count = 0; steps = refl }

  pub then_on : (a b c : State K V) → GoesOn a b → GoesOn b c → GoesOn a c
  then_on a b c f g = record { further = λ s r. g.further s (f.further s r) }

  pub reached : (old new : State K V) → GoesOn old new → ComesOf old new
  reached old new g = g.further old (begins old)

module _ {K V : Type 0} (old new : State K V) where
  pub on_step : OneStep old new → GoesOn old new
  on_step one = record { further = λ s r. record { count = suc r.count; steps = (old, r.steps, one) } }

  pub on_same : new ≡ old → GoesOn old new
  on_same same = record { further = λ s r. subst (ComesOf s) (sym same) r }

  pub on_born : (e : Entity) → OnPeople (λ p p'. Births born p e p') old new → GoesOn old new
  on_born e s = on_step (inl (e, s))

  pub on_pending : (e : Entity) → OnPeople (λ p p'. Births born_pending p e p') old new → GoesOn old new
  on_pending e s = on_step (inr (inl (e, s)))

  pub on_dead : (es : List Entity) → Deletes es old new → GoesOn old new
  on_dead es s = on_step (inr (inr (inl (es, s))))

  pub on_marked : (e : Entity) → OnPeople (λ p p'. Marks p e p') old new → GoesOn old new
  on_marked e s = on_step (inr (inr (inr (inl (e, s)))))

  pub on_registered : (slot : K) → OnTable (λ t t'. Registers t slot t') old new → GoesOn old new
  on_registered slot s = on_step (inr (inr (inr (inr (inl (slot, s))))))

  pub registered_or_not : {A E : Type 0} (r : Result A E) (slot : K) → new.people ≡ old.people → new.ids ≡ old.ids → OnOk r (Registers old.table slot new.table) → OnErr r (new.table ≡ old.table) → GoesOn old new
  registered_or_not (Ok x) slot people ids ok err = on_registered slot (record { people = people; table = ok; ids = ids })
  registered_or_not (Err e) slot people ids ok err = on_same (rw (people, err, ids) refl)

  pub on_inserted : (place : V → K) (e : Entity) (value : V) (before : Option V) → InsertsAlone place e value before old new → GoesOn old new
  on_inserted place e value before s =
      let t = s.table in
      let there : Inserts (λ _. place value) old.people old.table e value before new.table = record { column = t.column; registered = t.registered; alive = t.alive; told = t.told; put = t.put } in
      on_step (inr (inr (inr (inr (inr (inl (place value, e, value, before, record { people = s.people; table = there; ids = s.ids })))))))

  pub on_put : (place : V → K) (e : Entity) (value : V) → PutsAlone place e value old new → GoesOn old new
  on_put place e value s = on_inserted place e value s.table.before (record { people = s.people; table = s.table.inserts; ids = s.ids })

  pub on_maybe : {T : Type 0} (place : V → K) (as_value : T → V) (e : Entity) (component : Option T) → MaybePuts place as_value e component old new → GoesOn old new
  on_maybe place as_value e None s = on_same s
  on_maybe place as_value e (Some x) s = on_put place e (as_value x) s

  pub on_removed : (slot : K) (e : Entity) (found : Option V) → RemovesAlone slot e found old new → GoesOn old new
  on_removed slot e found s = on_step (inr (inr (inr (inr (inr (inr (inl (slot, e, found, s))))))))

  pub on_cleared : (slot : K) → OnTable (λ t t'. Clears t slot t') old new → GoesOn old new
  on_cleared slot s = on_step (inr (inr (inr (inr (inr (inr (inr (inl (slot, s)))))))))

  pub on_dropped : (es : List Entity) → DropsComponents es old new → GoesOn old new
  on_dropped es s = on_step (inr (inr (inr (inr (inr (inr (inr (inr (inl (es, s))))))))))

  pub on_given : (marks : Markers K V) (slot : K) (e : Entity) (given : Option Bool) → GivesMarkerIn marks slot e given old new → GoesOn old new
  on_given marks slot e given g =
      on_step (inr (inr (inr (inr (inr (inr (inr (inr (inr (slot, e, record { given = given; people = g.people; table = any_marker _ old.people old.table new.table slot e given g.table; ids = g.ids }))))))))))

  pub on_labelled : (marks : Markers K V) (slot : K) (e : Entity) → HasMarkerThen marks slot e old new → GoesOn old new
  on_labelled marks slot e s = on_given marks slot e s.given s.gives

-- longer lists
module _ {X : Type 0} where
  pub longer_by : (old new more : List X) → new ≡ old ++ more → Lengthens old new
  longer_by old new more is = record { further = λ first e. record { more = e.more ++ more; whole = is ∙ ap (λ xs. xs ++ more) e.whole ∙ append_assoc first e.more more } }

  pub no_longer : (old new : List X) → new ≡ old → Lengthens old new
  no_longer old new is = longer_by old new [] (is ∙ sym (append-nil old))

  -- a longer list, with what holds besides
  pub lengthened : {P : Type 0} (old new : List X) → Lengthens old new → P → (more : List X) × (new ≡ old ++ more) × P
  lengthened old new l p = let e = l.further old (record { more = []; whole = sym (append-nil old) }) in (e.more, e.whole, p)
