use Rattle.serde_json.specs.View.{items_view}
use Rattle.saveload.specs.JsonParts.{all_split}
use Rattle.saveload.proofs.Parts.{split_step}
use Rattle.saveload.proofs.saved_vec.split_all.Goals as goal

pub loop-left-preserved : goal.loop-left-preserved
loop-left-preserved g c =
    split_step (λ r. items_view r.now) g.T.JsonParts.split (all_split g.T.JsonParts.split c.args.count (items_view c.args.row.now))
    c.loop-left.list.items c.push.new.self.items c.loop-left.left (items_view c.loop-left.rest.now)
    c.in_ok-datum.field-0 c.in-Some.datum c.in-Some.behind c.loop-left-test.true c.loop-left.invariant c.in-Some.is c.in_ok-datum.ensures c.in_ok-push.ensures.items
