use Rattle.std.proofs.Common.{ℕ, ◌%◌, not, bit_and, ap, sym, ◌∙◌, arith, ◌/◌, ◌+◌}
use Rattle.std.specs.Prelude.{◌==◌}
use Rattle.std.proofs.lemmas.Nat.{one_shl}
use Rattle.entities.specs.Phase.Rule.{bit_of}
use Rattle.std.specs.Mem.Slots.{slots_items}
use Rattle.entities.proofs.Phases.Ends.{read_word}
use Rattle.entities.proofs.phase.closing.Ended.is_marked.Goals as goal

pub returns : goal.returns
returns c = ap (λ (k : ℕ). not (bit_and c.word.result k == 0)) (one_shl (c.args.index % 64) 64 (omega arith))
    ∙ ap (bit_of c.args.index) (sym (read_word (slots_items c.args.self.now.words.words) (c.args.index / 64 + 1) c.word.result c.word.ensures))
