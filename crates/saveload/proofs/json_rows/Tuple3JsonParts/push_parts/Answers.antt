use Rattle.saveload.proofs.Parts.{three_back}
use Rattle.saveload.proofs.json_rows.Tuple3JsonParts.push_parts.Goals as goal

pub returns-clause-back : goal.returns-clause-back
returns-clause-back g c =
    three_back g.A.JsonParts.parts g.A.JsonParts.split g.B.JsonParts.parts g.B.JsonParts.split g.C.JsonParts.parts g.C.JsonParts.split c.args.self.now
    c.in_ok-push_parts.ensures.back c.in_ok-push_parts-2.ensures.back c.in_ok-push_parts-3.ensures.back
