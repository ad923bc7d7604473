use Rattle.std.proofs.Common.{◌≡◌, rules, ap, ◌∙◌}
use Rattle.std.specs.FinSet as set
use Rattle.hibits.proofs.MemberLemmas.{is_added}
use Rattle.hibits.proofs.bit_set.BitSet.add.Goals as goal

pub returns-clause-added : goal.returns-clause-added
returns-clause-added c =
    let same : c.if-not-has_room.self.members ≡ c.args.self.now.members = search rules in
    is_added _ _ c.args.id (c.put.ensures.members ∙ ap (λ m. set.insert m c.args.id) same)
