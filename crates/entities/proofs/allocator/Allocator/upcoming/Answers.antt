use Rattle.std.proofs.Common.{◌≡◌, rules, subst, sym, List}
use Rattle.entities.specs.declared.entity.Entity.{Entity}
use Rattle.entities.specs.Census.{Census, population}
use Rattle.entities.specs.Kept.{IsStacked}
use Rattle.entities.specs.Upcoming.{upcoming}
use Rattle.entities.specs.Phase.Reserve.{IsReserve}
use Rattle.entities.proofs.Population.Upcoming.{reserve_is, revived_below}
use Rattle.entities.proofs.allocator.Allocator.upcoming.Goals as goal

pub returns-clause-reserve : goal.returns-clause-reserve
returns-clause-reserve c =
    let s = c.args.self.now in
    let stack : IsStacked s.generations s.free = subst (λ (x : Census). IsStacked x.generations x.free) c.self.view_is c.self.invariant.stack in
    let items : c.loop-earlier.entities.items ≡ upcoming s c.args.count = search rules in
    subst (λ (es : List Entity). IsReserve (population s) es) (sym items) (reserve_is s c.args.count stack c.requires)

pub returns-clause-revived : goal.returns-clause-revived
returns-clause-revived c k e =
    let s = c.args.self.now in
    let stack : IsStacked s.generations s.free = subst (λ (x : Census). IsStacked x.generations x.free) c.self.view_is c.self.invariant.stack in
    let items : c.loop-earlier.entities.items ≡ upcoming s c.args.count = search rules in
    rw items (revived_below s c.args.count k e stack)
