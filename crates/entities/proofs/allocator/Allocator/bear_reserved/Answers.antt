use Rattle.std.proofs.Common.{◌≡◌, ◌∙◌, ap, sym, subst}
use Rattle.entities.specs.Census.{Census}
use Rattle.entities.specs.Kept.{IsStacked}
use Rattle.entities.proofs.Population.Upcoming.{IsBorne, borne_none, borne_revived, borne_first}
use Rattle.entities.proofs.allocator.Allocator.bear_reserved.Goals as goal
use Rattle.entities.proofs.allocator.Allocator.bear_reserved.Goals.{in-Some, in-None}

pub loop-earlier-init : goal.loop-earlier-init
loop-earlier-init c = borne_none c.args.self.now

pub loop-earlier-preserved : goal.loop-earlier-preserved
loop-earlier-preserved c =
    let stack : IsStacked c.args.self.now.generations c.args.self.now.free = subst (λ (x : Census). IsStacked x.generations x.free) c.self.view_is c.self.invariant.stack in
    let k = c.loop-earlier.earlier in
    let i = c.loop-earlier.invariant in
    elim c.match-revive.branch [
      | in-Some w ↦ rw w.self-is (borne_revived c.args.self.now c.loop-earlier.self c.revive.new.self k _ stack i w.in-Some.ensures.last w.in-Some.ensures.born w.in-Some.ensures.others.0 w.in-Some.ensures.others.1)
      | in-None w ↦
          let same : c.revive.new.self ≡ c.loop-earlier.self = w.in-None.ensures.none.2 in
          let n = subst (λ (x : Census). IsBorne c.args.self.now k x) (sym same) i in
          rw w.self-is (borne_first c.args.self.now c.revive.new.self w.bear_next.new.self k _ stack n (ap (λ (x : Census). x.free) same ∙ w.in-None.ensures.none.1) w.bear_next.ensures.index w.bear_next.ensures.born w.bear_next.ensures.others.0 w.bear_next.ensures.others.1 w.bear_next.ensures.others.2)
    ]
