use Rattle.std.proofs.Common.{rules, ◌≡◌, subst, Bool, true, false, refl, ap, ◌∙◌, Option, Some}
use Rattle.std.specs.Prelude.{IsTrue, Ok, IfOk}
use Rattle.std.specs.Option.{option_map}
use Rattle.std.proofs.lemmas.Bool.{false≢true, eq-eqb}
use Rattle.entities.specs.declared.entity.Entity.{Entity}
use Rattle.entities.specs.Population.{Population, index_of}
use Rattle.specs.specs.Slots.Column.{Column}
use Rattle.specs.specs.Slots.Maps.{put}
use Rattle.specs.specs.Slots.Marks.{GivesMarker}
use Rattle.specs.specs.Slots.Table.{Table}
use Rattle.entities.specs.Census.{population}
use Rattle.callers.proofs.labels.is_labelled_anew.Goals as goal

has_one_that_comes : {K V : Type 0} (Comes : V → Type 0) (p : Population) (old new : Table K V) (slot : K) (e : Entity) (given : Bool) → GivesMarker Comes p old slot e (Some given) new → IsTrue given
    → (v : V) × Comes v × (option_map (λ (c : Column V). c.values (index_of e)) (new slot) ≡ Some (Some v))
has_one_that_comes Comes p old new slot e false g t = absurd (false≢true t)
has_one_that_comes {K} {V} Comes p old new slot e true g t =
    let here : put g.column.values (index_of e) g.value (index_of e) ≡ Some g.value = rw (eq-eqb (index_of e) (index_of e) refl) refl in
    (g.value, g.comes, ap (option_map (λ (c : Column V). c.values (index_of e))) g.put.here ∙ ap Some here)

pub returns-in-Ok-Some : goal.returns-in-Ok-Some
returns-in-Ok-Some g c =
    let same : c.in-Ok-Some.field-0 ≡ Some c.in-Ok-Some.given = search rules in
    let Comes = g.S.Held.marks.comes c.args.slot (g.S.Held.ids c.args.storages.now c.args.slot) in
    let gives = subst (λ o. GivesMarker Comes (population c.args.entities.now) (g.S.Held.table c.args.storages.now) c.args.slot c.args.e o (g.S.Held.table c.mark.new.self)) same c.in-Ok-Some.ensures.ok in
    has_one_that_comes Comes (population c.args.entities.now) (g.S.Held.table c.args.storages.now) (g.S.Held.table c.mark.new.self) c.args.slot c.args.e c.in-Ok-Some.given gives
