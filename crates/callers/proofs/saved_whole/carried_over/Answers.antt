use Rattle.saveload.specs.Saved.{marked_read}
use Rattle.storages.specs.ReadView.{found as seen}
use Rattle.callers.proofs.saved_whole.carried_over.Goals as goal

pub returns : goal.returns
returns g c = λ apart empty. c.in_ok-taken_up.ensures (λ e. seen c.args.markers.now e) (λ e. (seen c.args.places.now.0 e, seen c.args.places.now.1 e)) (marked_read c.args.markers.now)
    c.in-Some.ensures.saved (c.in-Some.ensures.distinct apart) c.in-Some.ensures.holds empty
