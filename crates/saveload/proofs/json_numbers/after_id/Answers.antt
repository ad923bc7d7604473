use Rattle.std.proofs.Common.{arith}
use Rattle.saveload.proofs.Kept.{each, id_takes}
use Rattle.saveload.proofs.json_numbers.after_id.Goals as goal

pub returns : goal.returns
returns c = each c.after.result c.after.ensures (λ rest e. id_takes c.args.number c.format.result.now c.args.text.now rest.now (grind arith) c.format.ensures.text e)
