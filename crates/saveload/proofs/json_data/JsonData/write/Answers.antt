use Rattle.std.proofs.Common.{◌++◌, string_bytes, ap, ◌∙◌}
use Rattle.serde_json.specs.View.{view}
use Rattle.saveload.proofs.Kept.{value_writes}
use Rattle.saveload.proofs.json_data.JsonData.write.Goals as goal

pub returns-clause-written : goal.returns-clause-written
returns-clause-written g c =
    value_writes g.Self.JsonData.json g.Self.JsonData.from c.args.self.now (view c.in_ok-value.value) (string_bytes c.args.text.now) (string_bytes c.in_ok-written.written) (string_bytes c.push_str.new.self)
    c.in_ok-value.ensures.value c.in_ok-value.ensures.back (g.met.Self.JsonData.whole c.args.self.now) (g.met.Self.JsonData.shallow c.args.self.now)
    c.in_ok-written.ensures.text c.in_ok-written.ensures.order c.in_ok-written.ensures.reads_back (c.in_ok-push_str.ensures.bytes ∙ ap (λ s. string_bytes c.args.text.now ++ s) c.as_str.ensures.value)
