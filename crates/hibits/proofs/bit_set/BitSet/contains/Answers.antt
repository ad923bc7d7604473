use Rattle.std.proofs.Common.{◌/◌, sym, ap, ◌∙◌}
use Rattle.std.specs.FinSet as set
use Rattle.hibits.proofs.RowLemmas.{contains-members_of}
use Rattle.hibits.proofs.PageLemmas.{member_has_room, room_below}
use Rattle.hibits.proofs.bit_set.BitSet.contains.Goals as goal

pub returns-clause-value : goal.returns-clause-value
returns-clause-value c = c.bit_of_lowest.ensures ∙ sym (contains-members_of c.self.inside.layer0.items c.args.id) ∙ ap (λ s. set.contains s.members c.args.id) c.self.view_is

pub returns-clause-members_have_room : goal.returns-clause-members_have_room
returns-clause-members_have_room c i e =
    sym (ap (λ s. set.contains s.room (i / 4096)) c.self.view_is) ∙ member_has_room _ _ _ _ _ _ c.self.invariant i (ap (λ s. set.contains s.members i) c.self.view_is ∙ e)

pub returns-clause-room_is_limited : goal.returns-clause-room_is_limited
returns-clause-room_is_limited c i e = room_below _ _ _ _ _ _ c.self.invariant i (ap (λ s. set.contains s.room (i / 4096)) c.self.view_is ∙ e)
