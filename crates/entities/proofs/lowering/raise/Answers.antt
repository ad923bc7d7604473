use Rattle.std.proofs.Common.{◌≡◌, ◌∙◌, ◌<◌, pos, length, take, get_or, rules, arith, w32, FitsSigned, length-set}
use Rattle.std.proofs.lemmas.List.{take_all}
use Rattle.std.proofs.lemmas.Int.{to_z-of_z}
use Rattle.entities.specs.declared.entity.Entity.{Entity}
use Rattle.entities.proofs.Population.Lowers.{raised_more, raised_all}
use Rattle.entities.proofs.lowering.raise.Goals as goal

pub loop-e-preserved : goal.loop-e-preserved
loop-e-preserved c =
    let d : Entity = record { 0 = 0; 1 = record { 0 = pos 0 } } in
    let es = c.args.list.now in
    let k = c.loop-e.e-index in
    let e = get_or es k d in
    let fits : FitsSigned w32 e.1.0 = search rules in
    let inside : e.0 < length c.loop-e.generations = omega (arith, c.requires k d c.loop-e-test.true, c.loop-e.invariant.len) in
    rw (to_z-of_z w32 e.1.0 fits) (record {
      len = length-set c.loop-e.generations e.0 e.1.0 ∙ c.loop-e.invariant.len;
      raised = λ gs all. raised_more gs c.args.generations.now c.loop-e.generations es k d c.loop-e-test.true (all k d c.loop-e-test.true) inside (c.loop-e.invariant.raised gs all);
    })

pub returns : goal.returns
returns c gs all low =
    let es = c.args.list.now in
    let all_of : take c.loop-e.e-index es ≡ es = take_all c.loop-e.e-index es (omega arith) in
    raised_all gs c.args.generations.now c.loop-e.generations es c.loop-e.invariant.len low (λ i. rw all_of at (c.loop-e.invariant.raised gs all i))
