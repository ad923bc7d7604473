use Rattle.std.proofs.Common.{◌∙◌, ◌+◌, eqb-true}
use Rattle.std.specs.Mem.Slots.{slots_items}
use Rattle.entities.proofs.Phases.Ends.{read_word}
use Rattle.entities.proofs.phase.closing.Ended.has_none.Goals as goal

pub returns : goal.returns
returns c h = read_word (slots_items c.args.self.now.words.words) (c.args.word + 1) c.word.result c.word.ensures ∙ eqb-true c.word.result 0 h
