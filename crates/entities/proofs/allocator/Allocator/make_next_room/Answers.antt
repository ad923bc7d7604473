use Rattle.std.proofs.Common.{◌≡◌, arith, length, rules}
use Rattle.entities.specs.Census.{births_of}
use Rattle.entities.proofs.Kept.Stack.{unborn_past}
use Rattle.entities.proofs.allocator.Allocator.make_next_room.Goals as goal

pub returns-in-Err-clause-memory : goal.returns-in-Err-clause-memory
returns-in-Err-clause-memory c _ unused =
    let gs = c.self.inside.generations.items in
    let born : c.len-born.result ≡ length gs = search rules in
    let none : births_of c.args.self.now.generations c.len-born.result ≡ 0 = rw (← c.self.view_is) (unborn_past gs c.len-born.result (omega arith)) in
    unused c.len-born.result (omega arith) none
