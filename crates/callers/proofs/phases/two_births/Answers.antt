use Rattle.std.proofs.Common.{◌≡◌, ◌<◌, List, get_or, set, length, length-set, rules, arith, ◌∙◌}
use Rattle.std.proofs.lemmas.List.{get_or-set_same, get_or-set_other}
use Rattle.entities.specs.declared.phase.pass.Pass.{Pass}
use Rattle.entities.specs.Census.{population}
use Rattle.entities.specs.Population.{IsAlive}
use Rattle.entities.specs.Phase.Opened.{phase_opened}
use Rattle.entities.specs.Phase.Laws.{newly_given, given_apart, given_alive}
use Rattle.callers.proofs.phases.two_births.Goals as goal

-- the list of two passes, as they are after their calls
size : (passes : List Pass) (a b : Pass) → length passes ≡ 2 → 1 < length (set (set passes 0 a) 1 b)
size passes a b two = omega (arith, two, length-set (set passes 0 a) 1 b, length-set passes 0 a)

first_at : (passes : List Pass) (a b : Pass) → length passes ≡ 2 → get_or (set (set passes 0 a) 1 b) 0 a ≡ a
first_at passes a b two = get_or-set_other (set passes 0 a) 1 0 b a (omega arith) ∙ get_or-set_same passes 0 a a (omega (arith, two))

second_at : (passes : List Pass) (a b d : Pass) → length passes ≡ 2 → get_or (set (set passes 0 a) 1 b) 1 d ≡ b
second_at passes a b d two = get_or-set_same (set passes 0 a) 1 b d (omega (arith, two, length-set passes 0 a))

pub returns-in-Ok-Ok-clause-apart : goal.returns-in-Ok-Ok-clause-apart
returns-in-Ok-Ok-clause-apart c =
    let items = c.in-Ok.passes.items in
    let a = c.create-first.new.pass in
    let b = c.create-second.new.pass in
    let two = c.in-Ok.ensures.passes.1 in
    given_apart (phase_opened c.in-Ok.shared) _ 0 1 a b c.in-Ok-Ok.first c.in-Ok-Ok.second c.close.ensures.once (omega arith) (size items a b two) (first_at items a b two) (second_at items a b a two)
    (newly_given _ _ a c.in-Ok-Ok.first _ (rw c.in-Ok-Ok.is-0 at c.create-first.ensures.gains))
    (newly_given _ _ b c.in-Ok-Ok.second _ (rw c.in-Ok-Ok.is-1 at c.create-second.ensures.gains))

pub returns-in-Ok-Ok-clause-first : goal.returns-in-Ok-Ok-clause-first
returns-in-Ok-Ok-clause-first c =
    let items = c.in-Ok.passes.items in
    let a = c.create-first.new.pass in
    let b = c.create-second.new.pass in
    let two = c.in-Ok.ensures.passes.1 in
    let alive : IsAlive (population c.close.new.self.0) c.in-Ok-Ok.first =
    given_alive (phase_opened c.in-Ok.shared) _ 0 a c.in-Ok-Ok.first _ c.close.ensures.taken_up (omega (arith, size items a b two)) (first_at items a b two)
    (newly_given _ _ a c.in-Ok-Ok.first _ (rw c.in-Ok-Ok.is-0 at c.create-first.ensures.gains)) in
    search (alive, rules)

pub returns-in-Ok-Ok-clause-second : goal.returns-in-Ok-Ok-clause-second
returns-in-Ok-Ok-clause-second c =
    let items = c.in-Ok.passes.items in
    let a = c.create-first.new.pass in
    let b = c.create-second.new.pass in
    let two = c.in-Ok.ensures.passes.1 in
    let alive : IsAlive (population c.close.new.self.0) c.in-Ok-Ok.second =
    given_alive (phase_opened c.in-Ok.shared) _ 1 b c.in-Ok-Ok.second _ c.close.ensures.taken_up (size items a b two) (second_at items a b b two)
    (newly_given _ _ b c.in-Ok-Ok.second _ (rw c.in-Ok-Ok.is-1 at c.create-second.ensures.gains)) in
    search (alive, rules)
