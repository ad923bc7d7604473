use Rattle.std.proofs.Common.{refl, ◌∙◌}
use Rattle.hibits.specs.Sets.{has_part_zero}
use Rattle.specs.proofs.world.core_parts.Core.+chosen.Goals as goal

pub returns-in-Some : goal.returns-in-Some
returns-in-Some g t c i lt =
    let m = c.in-Some.ensures in
    has_part_zero c.in-Some.mask.now.members i ∙ m.each i ∙ (rw (c.in-Slot.is, m.registered) refl)

pub returns-in_ok-pending-in-Living : goal.returns-in_ok-pending-in-Living
returns-in_ok-pending-in-Living g t c i lt =
    rw (c.in-Living.is, c.in_ok-merged-in-Living.ensures.ok, c.in_ok-pending-in-Living.ensures.ok, has_part_zero c.alive.result.now.members i, has_part_zero c.raised.result.now.members i, c.alive.ensures i, c.raised.ensures i) refl
