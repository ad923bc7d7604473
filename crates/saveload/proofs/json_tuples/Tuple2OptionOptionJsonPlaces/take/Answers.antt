use Rattle.saveload.proofs.Kept.{took}
use Rattle.saveload.proofs.KeptTuples.{two_takes}
use Rattle.saveload.proofs.json_tuples.Tuple2OptionOptionJsonPlaces.take.Goals as goal

pub returns : goal.returns
returns g c =
    two_takes g.A.JsonData.json g.A.JsonData.from g.B.JsonData.json g.B.JsonData.from
    c.in-Some.row c.args.text.now c.in-Some.rest.now (took _ c.in_ok-row.field-0 (c.in-Some.row, c.in-Some.rest) c.in_ok-row.ensures c.in-Some.is)
