use Rattle.std.proofs.Common.{◌∙◌}
use Rattle.entities.proofs.Phases.Keeps.{opens_at}
use Rattle.entities.proofs.Phases.Passes.{fresh_of}
use Rattle.entities.proofs.phase.start.start.Goals as goal

pub of_words-requires : goal.of_words-requires
of_words-requires c = opens_at c.args.plan c.as_slice.result.now (c.as_slice.ensures.value ∙ c.in_ok-zeros.ensures.items_if_clones_equal (λ y h. h))

pub returns-clause-passes : goal.returns-clause-passes
returns-clause-passes c = let d = c.in_ok-deal.ensures in (fresh_of _ 0 c.deal.new.passes.items d.passes.0, d.passes.1)
