use Rattle.joins.proofs.CursorLemmas.{mask_is, parts_are_keys, both_at}
use Rattle.joins.proofs.cursors.write_join2.WriteJoin2.next.Goals as goal

pub next-requires : goal.next-requires
next-requires g c = rw (mask_is _ _ c.mask.ensures, mask_is _ _ c.mask-2.ensures) c.args.self.now.valid

pub invariant_of-self : goal.invariant_of-self
invariant_of-self g c =
    let there = both_at _ _ _ _ (parts_are_keys _ _ c.mask.ensures) (parts_are_keys _ _ c.mask-2.ensures) _ c.next.result c.next.ensures.current c.next.ensures.member in
    record {
      valid = rw c.next.ensures.mask (rw (mask_is _ _ c.mask.ensures, mask_is _ _ c.mask-2.ensures) at c.next.ensures.walk);
      in_first = λ x e. (there x e).0;
      in_second = λ x e. (there x e).1;
    }

pub returns-clause-rest : goal.returns-clause-rest
returns-clause-rest g c = rw (c.next.ensures.mask) (rw (parts_are_keys _ _ c.mask.ensures, parts_are_keys _ _ c.mask-2.ensures) at c.next.ensures.items)

pub returns-clause-ended : goal.returns-clause-ended
returns-clause-ended g c = rw (c.next.ensures.mask) (rw (parts_are_keys _ _ c.mask.ensures, parts_are_keys _ _ c.mask-2.ensures) at c.next.ensures.ended)
