use Rattle.std.proofs.Common.{◌∙◌, ap, sym, pos, take, get_or, cond, [], ◌∷◌, ◌++◌, List, append-nil, Vec, Global}
use Rattle.std.specs.List.{filter}
use Rattle.std.proofs.lemmas.Bool.{both_ways}
use Rattle.std.proofs.lemmas.List.{take_all}
use Rattle.std.proofs.lemmas.List.Elements.{filter_more}
use Rattle.entities.specs.Census.{population}
use Rattle.entities.specs.declared.entity.Entity.{Entity}
use Rattle.storages.specs.Life.{is_alive}
use Rattle.specs.proofs.Values.{alive_true, dead_false}
use Rattle.specs.proofs.world.core_parts.Core.living_of.Goals.{then-is_alive+in_ok-push, else-is_alive}
use Rattle.specs.proofs.world.core_parts.Core.living_of.Goals as goal

pub loop-e-preserved : goal.loop-e-preserved
loop-e-preserved g c =
    let d : Entity = record { 0 = 0; 1 = record { 0 = pos 0 } } in
    let p = is_alive (population c.args.self.now.parts.entities) in
    let es = c.args.list.now in
    let k = c.loop-e.e-index in
    let e = get_or es k d in
    let more = filter_more p es k d c.loop-e-test.true in
    elim c.if-is_alive.branch [
      | then-is_alive+in_ok-push w ↦
          ap (λ (v : Vec Entity Global). v.items) w.living-is ∙ w.in_ok-push.ensures.items ∙ ap (λ (xs : List Entity). xs ++ e ∷ []) c.loop-e.invariant
          ∙ ap (λ b. filter p (take k es) ++ cond b (e ∷ []) []) (sym (alive_true (population c.args.self.now.parts.entities) e (c.is_alive.ensures.alive.0 w.if-is_alive.true))) ∙ sym more
      | else-is_alive w ↦
          ap (λ (v : Vec Entity Global). v.items) w.living-is ∙ c.loop-e.invariant ∙ sym (append-nil (filter p (take k es)))
          ∙ ap (λ b. filter p (take k es) ++ cond b (e ∷ []) []) (sym (dead_false (population c.args.self.now.parts.entities) e (λ alive. both_ways _ w.if-is_alive.false (c.is_alive.ensures.alive.1 alive)))) ∙ sym more
    ]

pub returns-clause-items : goal.returns-clause-items
returns-clause-items g c = c.loop-e.invariant ∙ ap (filter (is_alive (population c.args.self.now.parts.entities))) (take_all c.loop-e.e-index c.args.list.now c.loop-e-test.false)
