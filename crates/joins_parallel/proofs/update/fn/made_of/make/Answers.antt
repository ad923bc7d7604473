use Rattle.std.proofs.Common.{sym, ◌∙◌, ap}
use Rattle.joins_parallel.specs.Replacing.{at_index}
use Rattle.joins_parallel.proofs.Replacing.{some_of_key}
use Rattle.joins_parallel.proofs.update.fn.made_of.make.Goals as goal

pub returns-in-Some : goal.returns-in-Some
returns-in-Some g c = (
  c.f.result,
  c.get.result,
  c.at.result,
  sym (c.unprotected_storage.ensures.present _ (some_of_key c.captures.storage.now.map _ c.requires.0)) ∙ c.get.ensures,
  c.at.ensures,
  c.f.ensures,
  sym (ap (at_index c.args.id) c.in-Some.is),
)

pub returns-in-None : goal.returns-in-None
returns-in-None g c = (
  c.f.result,
  c.get.result,
  c.at.result,
  sym (c.unprotected_storage.ensures.present _ (some_of_key c.captures.storage.now.map _ c.requires.0)) ∙ c.get.ensures,
  c.at.ensures,
  c.f.ensures,
  sym (ap (at_index c.args.id) c.in-None.is),
)
