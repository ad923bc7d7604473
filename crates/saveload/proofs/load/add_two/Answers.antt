use Rattle.saveload.specs.Places.{place}
use Rattle.saveload.proofs.Joined.{both}
use Rattle.saveload.proofs.load.add_two.Goals as goal

pub returns : goal.returns
returns g c =
    both c.args.list.now.items ((place g.A.ConvertSaveload.conversion).mentions c.args.first.now) ((place g.B.ConvertSaveload.conversion).mentions c.args.second.now) c.add_mentions.new.list.items c.add_mentions-2.new.list.items
    c.in_ok-add_mentions.ensures c.in_ok-add_mentions-2.ensures
