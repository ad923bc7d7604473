-- What keeps the room for indices.
use Rattle.std.proofs.Common.{ℕ, ◌≤◌, arith}
use Rattle.hibits.specs.Sets.{Layered}
use Rattle.entities.specs.Kept.{IsRoomy, HaveRoom}

-- no index was born, and the sets keep their room
pub same_room : (born room listed stacked : ℕ) (a r k a' r' k' : Layered) → IsRoomy born room listed stacked a r k → ((j : ℕ) → HaveRoom a r k j → HaveRoom a' r' k' j) → IsRoomy born room listed stacked a' r' k'
same_room born room listed stacked a r k a' r' k' h kept = record { born_within = h.born_within; few = h.few; in_list = h.in_list; in_stack = h.in_stack; in_sets = λ j lt. kept j (h.in_sets j lt) }

-- more or fewer may be born, within the room, and lists keep theirs
pub moved_room : (born born' room listed listed' stacked stacked' : ℕ) (a r k a' r' k' : Layered) → IsRoomy born room listed stacked a r k → born' ≤ room → listed ≤ listed' → stacked ≤ stacked' → ((j : ℕ) → HaveRoom a r k j → HaveRoom a' r' k' j) → IsRoomy born' room listed' stacked' a' r' k'
moved_room born born' room listed listed' stacked stacked' a r k a' r' k' h within l s kept = record { born_within = within; few = h.few; in_list = omega (arith, h.in_list); in_stack = omega (arith, h.in_stack); in_sets = λ j lt. kept j (h.in_sets j lt) }
