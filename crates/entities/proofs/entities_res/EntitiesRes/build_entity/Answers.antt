use Rattle.std.proofs.Common.{refl}
use Rattle.entities.specs.Census.{population}
use Rattle.entities.specs.Living.{newborn_alive}
use Rattle.entities.proofs.entities_res.EntitiesRes.build_entity.Goals as goal

pub returns : goal.returns
returns c =
    let e = c.in_ok-entity.ensures in (
      (refl, (λ w. refl), tt),
      record {
        rests = tt;
        same_reference = refl;
        may = e.may;
        below = e.below;
        generation = e.generation;
        born = e.born;
        alive = newborn_alive (population c.args.self.now) _ c.in_ok-entity.entity e.generation e.born;
        limit = tt;
        reuses = tt;
        memory = tt;
        had_room = λ _. refl;
        room = e.room;
        takes = e.takes;
      },
    )

pub invariant_of-result : goal.invariant_of-result
invariant_of-result c = let e = c.in_ok-entity.ensures in record { lives = newborn_alive (population c.args.self.now) _ c.in_ok-entity.entity e.generation e.born; below = e.below }
