use Rattle.std.proofs.Common.{rules, ◌≡◌, sym, ◌∙◌, subst, None}
use Rattle.std.specs.Prelude.{IsSome, pos}
use Rattle.saveload.proofs.Lists.{has_at, first_unnamed, tested_more}
use Rattle.saveload.proofs.places.all_named.Goals as goal

pub returns-then-is_none-clause-refused : goal.returns-then-is_none-clause-refused
returns-then-is_none-clause-refused g c n answers =
    let a = answers _ c.ids.result (has_at c.args.references.now c.loop-x.x-index (0, record { 0 = pos 0 }) c.loop-x-test.true) c.ids.ensures in
    let none : c.ids.result ≡ None = search rules in
    first_unnamed n c.args.references.now c.loop-x.x-index (0, record { 0 = pos 0 }) c.loop-x-test.true (c.loop-x.invariant n answers) (sym a ∙ none)

pub loop-x-preserved : goal.loop-x-preserved
loop-x-preserved g c n answers =
    let a = answers _ c.ids.result (has_at c.args.references.now c.loop-x.x-index (0, record { 0 = pos 0 }) c.loop-x-test.true) c.ids.ensures in
    let some : IsSome c.ids.result = search rules in
    tested_more (λ x. IsSome (n x)) c.args.references.now c.loop-x.x-index (0, record { 0 = pos 0 }) c.loop-x-test.true (c.loop-x.invariant n answers) (subst IsSome a some)
