use Rattle.std.proofs.Common.{rules, ap, sym, ◌∙◌, append-nil}
use Rattle.hibits.specs.Left.{left}
use Rattle.hibits.specs.MaskExprs.{expr_has}
use Rattle.hibits.specs.Sets.{has_part}
use Rattle.joins.specs.Same.{left_same}
use Rattle.specs.proofs.world.core_parts.Core.select.Goals as goal

pub returns-clause-ok : goal.returns-clause-ok
returns-clause-ok g c =
    let inv = c.loop-i.invariant.indices in
    let done = rw c.in_default-next.ensures.items at inv in
    let all = sym (append-nil c.loop-i.indices.items) ∙ done in
    record { registered = search rules; members = all ∙ ap (λ m. left (expr_has (λ b. has_part b.now.members) m 0) 0) c.loop-i.invariant.same ∙ left_same _ _ 0 (λ i _ lt. c.in-Ok.ensures i lt) }
