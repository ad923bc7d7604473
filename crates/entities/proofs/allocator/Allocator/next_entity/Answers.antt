use Rattle.std.proofs.Common.{◌≡◌, ◌<◌, ◌-◌, ℕ, List, ℤ, true, rules, arith, get_or, length, pos, w32, FitsSigned}
use Rattle.std.proofs.lemmas.Int.{to_z-of_z}
use Rattle.std.proofs.lemmas.List.{get_or_read}
use Rattle.entities.specs.Kept.{free_at, IsStacked}
use Rattle.entities.proofs.Kept.Stack.{within}
use Rattle.entities.proofs.Population.Upcoming.{stack_free}
use Rattle.entities.proofs.allocator.Allocator.next_entity.Goals as goal

-- the index that was read from the stack is of a dead one that was born
read_free : (gs : List ℤ) (free : List ℕ) (k index : ℕ) → IsStacked gs free → k < length free → index ≡ get_or free k index → (index < length gs) × (free_at (get_or gs index (pos 0)) ≡ true)
read_free gs free k index stack low read =
    let at = get_or_read free k index low read 0 in
    let dead = stack_free gs free k stack low in
    (omega (arith, at, within gs (get_or free k 0) dead), rw at dead)

pub index-dead-requires : goal.index-dead-requires
index-dead-requires c =
    let len : c.len-then-earlier-len.result ≡ length c.self.inside.free.items = search rules in
    let read = read_free c.self.inside.generations.items c.self.inside.free.items (c.len-then-earlier-len.result - 1 - c.args.earlier) c.index-index.result.now c.self.invariant.stack (omega arith) c.index-index.ensures in
    omega (arith, read.0)

pub reborn-requires : goal.reborn-requires
reborn-requires c =
    let gs = c.self.inside.generations.items in
    let len : c.len-then-earlier-len.result ≡ length c.self.inside.free.items = search rules in
    let read = read_free gs c.self.inside.free.items (c.len-then-earlier-len.result - 1 - c.args.earlier) c.index-index.result.now c.self.invariant.stack (omega arith) c.index-index.ensures in
    let fits : FitsSigned w32 c.index-dead.result.now = search rules in
    rw (to_z-of_z w32 _ fits, get_or_read gs _ _ read.0 c.index-dead.ensures (pos 0)) read.1
