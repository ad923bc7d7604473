use Rattle.std.proofs.Common.{◌≡◌, ◌∙◌, ◌≤◌, subst, ◌&&◌, true, Bool, ℕ, ap, sym, refl, arith, map, append_assoc, length}
use Rattle.std.proofs.lemmas.Bool.{both_ways}
use Rattle.std.proofs.lemmas.List.{append-nil}
use Rattle.hibits.specs.Left.{left}
use Rattle.hibits.specs.Sets.{has_part_zero}
use Rattle.hibits.specs.declared.limits.TheConstants.{INDEX_LIMIT}
use Rattle.entities.specs.Census.{Census, population, has, living_of}
use Rattle.entities.specs.Merges.{living_entity}
use Rattle.entities.proofs.Population.Merging.{entity_is, layer_is, marked_below}
use Rattle.entities.proofs.allocator.Allocator.marked_entities.Goals as goal

pub loop-id-init : goal.loop-id-init
loop-id-init c =
    let killed = ap (λ (x : Census). x.killed) c.self.view_is in
    record {
      walk = rw killed at c.new-walk.ensures.walk;
      items = rw (c.new-dead.ensures.items, c.new-walk.ensures.position) refl;
    }

pub next-requires : goal.next-requires
next-requires c =
    let killed = ap (λ (x : Census). x.killed) c.self.view_is in
    rw killed c.loop-id.invariant.walk

pub loop-id-smaller : goal.loop-id-smaller
loop-id-smaller c = omega (arith, c.in-Some.ensures.after, c.in-Some.ensures.below, c.in-Some.ensures.next.from_on)

pub loop-id-preserved : goal.loop-id-preserved
loop-id-preserved c =
    let p = c.args.self.now in
    let id = c.in-Some.id in
    let killed = ap (λ (x : Census). x.killed) c.self.view_is in
    let k : has p.killed id ≡ true = sym (has_part_zero p.killed id) ∙ (rw killed at c.in-Some.ensures.next.member) in
    let lives : living_of p.generations id ≡ true = ap (λ (x : Census). living_of x.generations id) (sym c.self.view_is) ∙ c.self.invariant.sets.marked id (ap (λ (x : Census). has x.killed id) c.self.view_is ∙ k) in
    let is : c.entity.result ≡ living_entity (population p) id = entity_is p c.entity.result id c.entity.ensures.index c.entity.ensures.generation lives in
    let next = rw killed at c.in-Some.ensures.items in
    record {
      walk = rw killed at c.next.ensures.walk;
      items = rw (c.in_ok-push.ensures.items, append_assoc, is) (rw next at c.loop-id.invariant.items);
    }

pub returns-in_err-push-clause-none : goal.returns-in_err-push-clause-none
returns-in_err-push-clause-none c h =
    let p = c.args.self.now in
    let id = c.in-Some.id in
    let killed = ap (λ (x : Census). x.killed) c.self.view_is in
    let k : has p.killed id ≡ true = sym (has_part_zero p.killed id) ∙ (rw killed at c.in-Some.ensures.next.member) in
    let lives : living_of p.generations id ≡ true = ap (λ (x : Census). living_of x.generations id) (sym c.self.view_is) ∙ c.self.invariant.sets.marked id (ap (λ (x : Census). has x.killed id) c.self.view_is ∙ k) in
    absurd (both_ways _ (h id) (ap (λ b. b && has p.killed id) lives ∙ k))

pub returns-clause-dead : goal.returns-clause-dead
returns-clause-dead c =
    let p = c.args.self.now in
    let killed = ap (λ (x : Census). x.killed) c.self.view_is in
    let within = λ (j : ℕ) (k : has p.killed j ≡ true). ap (λ (x : Census). living_of x.generations j) (sym c.self.view_is) ∙ c.self.invariant.sets.marked j (ap (λ (x : Census). has x.killed j) c.self.view_is ∙ k) in
    let done = rw killed at c.in_default.ensures.items in
    sym (append-nil c.loop-id.dead.items) ∙ (rw done at c.loop-id.invariant.items) ∙ ap (λ (q : ℕ → Bool). map (living_entity (population p)) (left q 0)) (layer_is p within)

pub returns-clause-below : goal.returns-clause-below
returns-clause-below c i m =
    let few : length c.self.inside.generations.items ≤ INDEX_LIMIT = omega (arith, c.self.invariant.roomy.born_within, c.self.invariant.roomy.few) in
    marked_below c.args.self.now i (subst (λ (x : Census). length x.generations ≤ INDEX_LIMIT) c.self.view_is few) m
