use Rattle.std.proofs.Common.{ap, sym, ◌∙◌, ◌/◌}
use Rattle.std.specs.FinSet as set
use Rattle.hibits.proofs.PageLemmas.{page_is, room_below}
use Rattle.hibits.proofs.bit_set.BitSet.has_room.Goals as goal

pub returns-clause-value : goal.returns-clause-value
returns-clause-value c = c.has_page.ensures.value ∙ ap (set.contains c.self.inside.layer0.pages) (page_is c.args.id) ∙ ap (λ s. set.contains s.room (c.args.id / 4096)) c.self.view_is

pub returns-clause-limit : goal.returns-clause-limit
returns-clause-limit c has = room_below _ _ _ _ _ _ c.self.invariant c.args.id (sym (c.has_page.ensures.value ∙ ap (set.contains c.self.inside.layer0.pages) (page_is c.args.id)) ∙ has)
