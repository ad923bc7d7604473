use Rattle.saveload.proofs.Kept.{front_is}
use Rattle.saveload.proofs.json_text.after.Goals as goal

pub returns : goal.returns
returns c = rw (← c.as_bytes.ensures.value) (front_is c.args.text.now c.as_bytes.result.now c.strip_prefix.result (λ x. x.now) c.strip_prefix.ensures.cases)
