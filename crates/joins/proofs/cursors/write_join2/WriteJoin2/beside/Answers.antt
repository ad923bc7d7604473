use Rattle.joins.proofs.cursors.write_join2.WriteJoin2.beside.Goals as goal

pub invariant_of-self : goal.invariant_of-self
invariant_of-self g c = record {
  valid = rw (c.beside.ensures.mask, c.beside.ensures.walk) c.args.self.now.valid;
  in_first = rw c.beside.ensures.current c.args.self.now.in_first;
  in_second = rw c.beside.ensures.current c.args.self.now.in_second;
}
