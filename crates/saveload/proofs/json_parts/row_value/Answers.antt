use Rattle.saveload.proofs.Parts.{row_back}
use Rattle.saveload.proofs.json_parts.row_value.Goals as goal

pub returns-clause-back : goal.returns-clause-back
returns-clause-back g c = row_back g.T.JsonParts.parts g.T.JsonParts.split c.args.datum.now c.in_ok-push_parts.ensures.back
