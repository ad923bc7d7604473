use Rattle.std.proofs.Common.{ap, sym, ◌∙◌, is_some, length}
use Rattle.std.proofs.Math.Path.{fun_ext}
use Rattle.hibits.specs.Left.{left}
use Rattle.hibits.specs.Sets.{has_part_zero}
use Rattle.joins.proofs.Holding.{same_presence}
use Rattle.joins.proofs.consumed.ChangeSetJoin.open.Goals as goal

pub returns-clause-mask : goal.returns-clause-mask
returns-clause-mask g c i = has_part_zero c.into_parts-mask.result.0.members i ∙ c.into_parts-mask.ensures.mask i

pub returns-clause-most : goal.returns-clause-most
returns-clause-most g c = c.sized.ensures ∙ ap (λ p. length (left p 0)) (fun_ext c.into_parts-mask.ensures.mask)

pub returns-clause-ready : goal.returns-clause-ready
returns-clause-ready g c i h = sym (same_presence _) ∙ ap is_some (c.into_parts-mask.ensures.values i) ∙ h

pub returns-clause-gives : goal.returns-clause-gives
returns-clause-gives g c i r h = sym (c.into_parts-mask.ensures.values i) ∙ h
