use Rattle.std.proofs.Common.{sym, ◌∙◌}
use Rattle.joins.proofs.CursorLemmas.{mask_is, parts_are_keys, part_is_key, some_at}
use Rattle.joins.proofs.cursors.write_join.WriteJoin.next.Goals as goal

pub next-requires : goal.next-requires
next-requires g c = rw (mask_is _ _ c.mask.ensures) c.args.self.now.valid

pub invariant_of-self : goal.invariant_of-self
invariant_of-self g c = record {
  valid = rw c.next.ensures.mask (rw (mask_is _ _ c.mask.ensures) at c.next.ensures.walk);
  there = λ x e. sym (part_is_key _ _ c.mask.ensures x) ∙ some_at _ _ _ c.next.ensures.current c.next.ensures.member x e;
}

pub returns-clause-rest : goal.returns-clause-rest
returns-clause-rest g c = rw (c.next.ensures.mask) (rw (parts_are_keys _ _ c.mask.ensures) at c.next.ensures.items)

pub returns-clause-ended : goal.returns-clause-ended
returns-clause-ended g c = rw (c.next.ensures.mask) (rw (parts_are_keys _ _ c.mask.ensures) at c.next.ensures.ended)

pub returns-clause-there : goal.returns-clause-there
returns-clause-there g c = rw (parts_are_keys _ _ c.mask.ensures) at c.next.ensures.member
