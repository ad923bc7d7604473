use Rattle.storages.specs.ReadView.{found as seen}
use Rattle.storages.specs.WriteView.{found}
use Rattle.callers.proofs.saved_whole.carried_over_whole.Goals as goal

pub returns : goal.returns
returns g c = λ apart empty.
    let whole = c.in-Ok.ensures.ok in (
      whole.all,
      whole.added,
      whole.parts,
      c.in_ok-taken_up.ensures (λ e. found c.serialize_recursive.new.markers e) (λ e. (seen c.args.places.now.0 e, seen c.args.places.now.1 e)) whole.all
          whole.saved (c.in-Ok.ensures.distinct apart) whole.holds empty,
    )
