use Rattle.std.proofs.Common.{Some, None, sym, ◌∙◌, rules, ◌≡◌, true}
use Rattle.serde_json.specs.View.{view}
use Rattle.saveload.specs.Json.{has_places}
use Rattle.saveload.proofs.KeptTuples.{three_reads}
use Rattle.saveload.proofs.json_tuples.Tuple3OptionOptionOptionJsonPlaces.from_value.Goals as goal

pub returns : goal.returns
returns g c =
    let long : has_places 3 (view c.args.value.now) ≡ true = search rules in
    three_reads g.A.JsonData.from g.B.JsonData.from g.C.JsonData.from (view c.args.value.now) (Some c.in-Some.row) long (sym c.in-Some.is ∙ c.in_ok-row.ensures)

pub returns-in_default : goal.returns-in_default
returns-in_default g c =
    let long : has_places 3 (view c.args.value.now) ≡ true = search rules in
    three_reads g.A.JsonData.from g.B.JsonData.from g.C.JsonData.from (view c.args.value.now) None long (sym c.in_default.is ∙ c.in_ok-row.ensures)
