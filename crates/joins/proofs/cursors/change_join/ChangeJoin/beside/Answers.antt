use Rattle.joins.proofs.cursors.change_join.ChangeJoin.beside.Goals as goal

pub invariant_of-self : goal.invariant_of-self
invariant_of-self g c = record {
  valid = rw (c.beside.ensures.mask, c.beside.ensures.walk) c.args.self.now.valid;
  there = rw c.beside.ensures.current c.args.self.now.there;
}
