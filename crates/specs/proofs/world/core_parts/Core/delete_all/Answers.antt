use Rattle.specs.proofs.Going.{on_dead}
use Rattle.std.proofs.Common.{◌≡◌, false, ap, sym, ◌∙◌, length, rules, subst}
use Rattle.std.specs.Option.{option_map}
use Rattle.std.specs.Vec.{vec_len}
use Rattle.std.proofs.lemmas.Bool.{false≢true}
use Rattle.entities.specs.Census.{population}
use Rattle.entities.specs.Deaths.{all_dead}
use Rattle.entities.specs.Population.{Population, lives}
use Rattle.specs.specs.Slots.Column.{without_values}
use Rattle.specs.specs.World.People.{the_living}
use Rattle.specs.proofs.AllDie.{all_may_die, not_refused, nobody_listed, nobody_left}
use Rattle.specs.proofs.Gone.{gone_deleted}
use Rattle.specs.proofs.Kept.{living_dead, gone_dead}
use Rattle.specs.proofs.world.core_parts.Core.delete_all.Goals as goal

pub returns-in_err-reserve_drop-clause-idle : goal.returns-in_err-reserve_drop-clause-idle
returns-in_err-reserve_drop-clause-idle g c = λ nobody.
    let len : vec_len c.in_ok-list.list ≡ length c.in_ok-list.list.items = search rules in
    absurd (false≢true (rw c.in_err-reserve_drop.was at (c.reserve_drop.ensures.none (c.len.ensures ∙ len ∙ ap length c.in_ok-list.ensures.all ∙ nobody_listed (population c.args.self.now.parts.entities) nobody))))

pub unreachable-requires : goal.unreachable-requires
unreachable-requires g c =
    let p = population c.args.self.now.parts.entities in
    let es : c.as_slice.result.now ≡ the_living p = c.as_slice.ensures.value ∙ c.in_ok-list.ensures.all in
    not_refused p (the_living p) _ (all_may_die p) (rw (es, c.alloc_mut.ensures.value) at c.in-Err.ensures.first)

pub returns-clause-ok : goal.returns-clause-ok
returns-clause-ok g c =
    let p = population c.args.self.now.parts.entities in
    let es : c.as_slice.result.now ≡ the_living p = c.as_slice.ensures.value ∙ c.in_ok-list.ensures.all in
    let again : c.as_slice-in-Ok.result.now ≡ the_living p = c.as_slice-in-Ok.ensures.value ∙ c.in_ok-list.ensures.all in
    record {
      people = record { may = all_may_die p; dead = rw (es, c.alloc_mut.ensures.value) at c.in-Ok.ensures.dead };
      table = λ s. (rw again at (c.drop_all.ensures.values s)) ∙ ap (λ t. option_map (without_values (the_living p)) (t s)) c.in_ok-reserve_drop.ensures.same;
      ids = c.drop_all.ensures.ids ∙ c.in_ok-reserve_drop.ensures.ids;
    }

pub returns-clause-nobody : goal.returns-clause-nobody
returns-clause-nobody g c = λ only i.
    let p = population c.args.self.now.parts.entities in
    let es : c.as_slice.result.now ≡ the_living p = c.as_slice.ensures.value ∙ c.in_ok-list.ensures.all in
    let dead : population c.kill.new.self ≡ all_dead (the_living p) p = rw (es, c.alloc_mut.ensures.value) at c.in-Ok.ensures.dead in
    subst (λ (q : Population). lives q i ≡ false) (sym dead) (nobody_left p (λ j on. only.below j (only.born j on)) i)

pub returns-clause-gone : goal.returns-clause-gone
returns-clause-gone g c =
    let p = population c.args.self.now.parts.entities in
    let es : c.as_slice.result.now ≡ the_living p = c.as_slice.ensures.value ∙ c.in_ok-list.ensures.all in
    gone_deleted p (population c.kill.new.self) (the_living p) (record { may = all_may_die p; dead = rw (es, c.alloc_mut.ensures.value) at c.in-Ok.ensures.dead })

pub returns-clause-living : goal.returns-clause-living
returns-clause-living g c = living_dead _ _ _ (returns-clause-ok g c)

pub returns-clause-stays_gone : goal.returns-clause-stays_gone
returns-clause-stays_gone g c = gone_dead _ _ _ (returns-clause-ok g c)

pub returns-clause-goes_on : goal.returns-clause-goes_on
returns-clause-goes_on g c = on_dead _ _ _ (returns-clause-ok g c)
