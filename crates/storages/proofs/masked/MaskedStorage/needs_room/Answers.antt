use Rattle.std.proofs.Common.{◌∙◌, ap, ◌||◌, is_some}
use Rattle.storages.specs.Channel.{is_heard}
use Rattle.storages.specs.Slot.{Slot}
use Rattle.storages.proofs.masked.MaskedStorage.needs_room.Goals as goal

pub returns-clause-wanted : goal.returns-clause-wanted
returns-clause-wanted g c =
    c.needs_room.ensures ∙ (g.met.T.Storage.UnprotectedStorage.room_is_wanted c.self.inside.inner).wanted
    ∙ ap (λ (s : Slot _). is_some s.inner_room || is_heard s.channel) c.self.view_is

pub returns-clause-inner : goal.returns-clause-inner
returns-clause-inner g c = rw (← c.self.view_is) (g.met.T.Storage.UnprotectedStorage.room_is_wanted c.self.inside.inner).inner
