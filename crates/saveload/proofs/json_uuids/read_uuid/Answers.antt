use Rattle.saveload.proofs.JsonTexts.{not_parsed}
use Rattle.saveload.proofs.json_uuids.read_uuid.Goals as goal

pub returns-in-Err : goal.returns-in-Err
returns-in-Err c = not_parsed c.args.text.now c.parse_str.result _ c.parse_str.ensures.ok c.in-Err.is
