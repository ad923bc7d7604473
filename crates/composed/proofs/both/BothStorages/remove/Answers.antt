use Rattle.composed.proofs.Sides.{in_first, in_rest}
use Rattle.specs.specs.Typed.Shown.{shown_removes}
use Rattle.composed.proofs.both.BothStorages.remove.Goals as goal

pub returns-in_ok-remove-in-First-clause-ok : goal.returns-in_ok-remove-in-First-clause-ok
returns-in_ok-remove-in-First-clause-ok g c = rw (c.in-First.is, c.first.ensures) (shown_removes (in_first _ _ _) _ c.in-First.slot c.args.e _ c.in_ok-remove-in-First.ensures.ok)

pub returns-in_ok-remove-in-Rest-clause-ok : goal.returns-in_ok-remove-in-Rest-clause-ok
returns-in_ok-remove-in-Rest-clause-ok g c = rw (c.in-Rest.is, c.rest.ensures) (shown_removes (in_rest _ _ _) _ c.in-Rest.slot c.args.e _ c.in_ok-remove-in-Rest.ensures.ok)
