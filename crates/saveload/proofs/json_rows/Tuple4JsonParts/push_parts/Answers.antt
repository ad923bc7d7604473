use Rattle.saveload.proofs.Parts.{four_back}
use Rattle.saveload.proofs.json_rows.Tuple4JsonParts.push_parts.Goals as goal

pub returns-clause-back : goal.returns-clause-back
returns-clause-back g c =
    four_back g.A.JsonParts.parts g.A.JsonParts.split g.B.JsonParts.parts g.B.JsonParts.split g.C.JsonParts.parts g.C.JsonParts.split g.D.JsonParts.parts g.D.JsonParts.split c.args.self.now
    c.in_ok-push_parts.ensures.back c.in_ok-push_parts-2.ensures.back c.in_ok-push_parts-3.ensures.back c.in_ok-push_parts-4.ensures.back
