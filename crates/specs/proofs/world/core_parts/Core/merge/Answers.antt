use Rattle.std.proofs.Common.{◌≡◌, ℕ, length, refl, sym, ap, ◌∙◌, subst}
use Rattle.std.specs.Option.{option_map}
use mathlib.Core.Path.{fun_ext}
use Rattle.std.proofs.lemmas.Bool.{false≢true}
use Rattle.hibits.specs.Left.{left}
use Rattle.entities.specs.Census.{Census, population}
use Rattle.entities.specs.Merges.{the_marked, merge}
use Rattle.specs.specs.Slots.Column.{without_values}
use Rattle.specs.specs.Slots.Table.{Table}
use Rattle.storages.specs.Meaning.{HasRoom}
use Rattle.specs.proofs.Counting.{none_left, count_marked}
use Rattle.specs.proofs.Gone.{gone_merged}
use Rattle.specs.proofs.Kept.{living_merged, gone_merging}
use Rattle.specs.proofs.world.core_parts.Core.merge.Goals as goal

pub returns-in_err-reserve_drop-clause-idle : goal.returns-in_err-reserve_drop-clause-idle
returns-in_err-reserve_drop-clause-idle g c = λ nobody.
    let counted = c.count.ensures.walk ∙ ap (λ has. length (left has 0)) (fun_ext c.marked.ensures) ∙ none_left _ nobody in
    absurd (false≢true (rw c.in_err-reserve_drop.was at (c.reserve_drop.ensures.none counted)))

pub drop_all-requires : goal.drop_all-requires
drop_all-requires g c = λ s.
    let counted = c.count.ensures.walk ∙ ap (λ has. length (left has 0)) (fun_ext c.marked.ensures) in
    let dead = ap length (c.as_slice.ensures.value ∙ c.in_ok-dead.ensures.dead) ∙ count_marked (population c.alloc_mut.result.now) in
    let same = ap (λ p. length (left p.marked 0)) (ap population c.alloc_mut.ensures.value) in
    subst (λ (n : ℕ). HasRoom (g.S.Storages.room c.reserve_drop.new.self s) n) (counted ∙ sym same ∙ sym dead) (c.in_ok-reserve_drop.ensures.ok s)

pub returns-clause-gone : goal.returns-clause-gone
returns-clause-gone g c =
    rw c.in_ok-dead.ensures.dead (gone_merged (population c.alloc_mut.result.now) (population c.merge.new.self) c.in_ok-dead.ensures.merged)

pub returns-clause-merged : goal.returns-clause-merged
returns-clause-merged g c =
    let p = population c.args.self.now.parts.entities in
    let same = ap (λ (x : Census). x) c.alloc_mut.ensures.value in
    let people : population c.merge.new.self ≡ merge p = c.in_ok-dead.ensures.merged ∙ ap (λ (x : Census). merge (population x)) same in
    let dead : c.as_slice.result.now ≡ the_marked p = c.as_slice.ensures.value ∙ c.in_ok-dead.ensures.dead ∙ ap (λ (x : Census). the_marked (population x)) same in
    let table : g.S.Held.table c.drop_all.new.self ≡ (λ slot. option_map (without_values (the_marked p)) (g.S.Held.table c.args.self.now.parts.storages slot)) =
    fun_ext (λ s. c.drop_all.ensures.values s ∙ ap (λ es. option_map (without_values es) (g.S.Held.table c.reserve_drop.new.self s)) dead ∙ ap (λ (t : Table _ _). option_map (without_values (the_marked p)) (t s)) c.in_ok-reserve_drop.ensures.same) in
    let ids = c.drop_all.ensures.ids ∙ c.reserve_drop.ensures.ids in
    rw (people, table, ids) refl

pub returns-clause-living : goal.returns-clause-living
returns-clause-living g c = living_merged _ _ (returns-clause-merged g c)

pub returns-clause-stays_gone : goal.returns-clause-stays_gone
returns-clause-stays_gone g c = gone_merging _ _ (returns-clause-merged g c)
