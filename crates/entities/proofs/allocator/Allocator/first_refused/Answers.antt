use Rattle.std.proofs.Common.{◌≡◌, ◌≤◌, ◌++◌, ◌∙◌, ℕ, ℤ, List, pos, length, take, drop, sym, ap, arith, rules, subst}
use Rattle.std.specs.Vec.{vec_capacity}
use Rattle.std.proofs.lemmas.List.{take-append-le, take_all}
use Rattle.entities.specs.declared.entity.Entity.{Entity}
use Rattle.entities.specs.Kept.{IsKept}
use Rattle.entities.proofs.Population.Steps.{census, first_refused}
use Rattle.entities.proofs.allocator.Allocator.first_refused.Goals as goal

pub returns-then-lowered-list-clause-refused : goal.returns-then-lowered-list-clause-refused
returns-then-lowered-list-clause-refused c =
    let d : Entity = record { 0 = 0; 1 = record { 0 = pos 0 } } in
    rw (← c.self.view_is) (first_refused (census c.self.inside.generations.items c.self.inside.raised.members c.self.inside.killed.members) c.args.list.now c.lower-lowered.result d c.if-lowered-list.true (rw c.as_mut_slice-generations.ensures.value at c.lower-lowered.ensures.distinct) (rw c.as_mut_slice-generations.ensures.value at (c.lower-lowered.ensures.stopped c.if-lowered-list.true d)))

-- what was written back is what there was
back : (xs ys : List ℤ) (n : ℕ) → n ≡ length xs → ys ≡ xs → xs ≡ take n (ys ++ drop (length ys) xs)
back xs ys n len e =
    let short : n ≤ length ys = omega (arith, len, ap length e) in
    sym (take-append-le n ys (drop (length ys) xs) short ∙ take_all n ys (omega (arith, len, ap length e)) ∙ e)

pub invariant_of-self : goal.invariant_of-self
invariant_of-self c =
    let i = c.self.inside in
    let len : i.generations.len ≡ length i.generations.items = search rules in
    let same : c.raise.new.generations ≡ i.generations.items = rw c.as_mut_slice-generations.ensures.value at (c.raise.ensures _ c.lower-lowered.ensures.distinct.0 c.lower-lowered.ensures.lowered) in
    subst (λ (gs : List ℤ). IsKept gs i.free.items i.room i.generations.cap (vec_capacity i.free) i.alive i.raised i.killed) (back i.generations.items c.raise.new.generations i.generations.len len same) c.self.invariant

pub invariant_of-self-2 : goal.invariant_of-self-2
invariant_of-self-2 c =
    let i = c.self.inside in
    let len : i.generations.len ≡ length i.generations.items = search rules in
    let same : c.raise.new.generations ≡ i.generations.items = rw c.as_mut_slice-generations.ensures.value at (c.raise.ensures _ c.lower-lowered.ensures.distinct.0 c.lower-lowered.ensures.lowered) in
    subst (λ (gs : List ℤ). IsKept gs i.free.items i.room i.generations.cap (vec_capacity i.free) i.alive i.raised i.killed) (back i.generations.items c.raise.new.generations i.generations.len len same) c.self.invariant
