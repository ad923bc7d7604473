use Rattle.std.proofs.Common.{refl, sym, ◌∙◌, inl, inr}
use Rattle.std.proofs.lemmas.Bool.{false≢true}
use Rattle.entities.specs.Census.{population}
use Rattle.entities.specs.Population.{IsAlive}
use Rattle.specs.proofs.Values.{found_at, lacks_at, lacks_dead, loan_wants, loan_ready}
use Rattle.specs.specs.Typed.Shown.{if_ok}
use Rattle.specs.proofs.Written.{living_rewritten}
use Rattle.specs.proofs.typed.writing.Writing.get_mut.Goals as goal

pub returns-then-not-is_alive : goal.returns-then-not-is_alive
returns-then-not-is_alive g c =
    let dead : IsAlive (population c.args.self.now.core.now.parts.entities) c.args.e → ⊥ = λ a. absurd (false≢true (sym c.if-not-is_alive.true ∙ c.is_alive.ensures.alive.1 a)) in
    ((refl, (λ w. record { same_reference = refl; writes = λ ok. absurd (false≢true ok); rest = refl; living = λ h. h; gone = λ f h. h }), record { same_reference = refl; refuses = inr refl; rest = refl; living = λ h. h; gone = λ f h. h }), record { writes_back = tt; value = tt; absent = (λ _. lacks_dead (population c.args.self.now.core.now.parts.entities) c.args.e dead (g.S.Field.part c.args.self.now.core.now.parts.storages) c.requires, λ _. refl); refused = λ e. absurd (cc); succeeds = λ h room. absurd (dead h.alive) })

pub returns : goal.returns
returns g c =
    let after = c.component_mut.follows in
    let core = c.args.self.now.core.now in
    let alive = c.is_alive.ensures.alive.0 c.if-not-is_alive.false in
    let laws = g.met.S.Has in
    let written = living_rewritten g.S.Field.part g.S.Field.with_part g.S.Held.table g.S.Held.ids g.S.Has.the_slot g.S.Has.as_value laws.sees laws.only g.met.S.Field.puts (population core.parts.entities) in (
      (
        refl,
        (λ w. let kept = after.holds w in record { same_reference = refl; writes = λ _. rw c.id.ensures at kept; rest = refl; living = written _ _ kept.slot kept.left kept.there kept.now kept.writes.keys; gone = λ f h. h }),
        (let kept = after.holds-at-none in record { same_reference = refl; refuses = inl kept; rest = refl; living = written _ _ kept.slot kept.left kept.there kept.now kept.refuses.keys; gone = λ f h. h }),
      ),
      record {
        writes_back = tt;
        value = if_ok c.component_mut.result _ _ (λ x. found_at (population core.parts.entities) c.args.e alive (g.S.Field.part core.parts.storages) x.now) (rw c.id.ensures at c.component_mut.ensures.value);
        absent =
            let lacks = lacks_at (population core.parts.entities) c.args.e alive (g.S.Field.part core.parts.storages) in
            let found = rw c.id.ensures at c.component_mut.ensures.absent in
            (λ h. lacks.0 (found.0 h), λ h. found.1 (lacks.1 h));
        refused = λ e. loan_wants (population core.parts.entities) c.args.e alive (g.S.Field.part core.parts.storages) c.requires ((rw c.id.ensures at c.component_mut.ensures.refused) e);
        succeeds = λ h room. (rw c.id.ensures at c.component_mut.ensures.succeeds) (loan_ready (population core.parts.entities) c.args.e (g.S.Field.part core.parts.storages) h room);
      },
    )
