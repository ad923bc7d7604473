use Rattle.joins.proofs.cursors.entry_join.EntryJoin.beside.Goals as goal

pub invariant_of-self : goal.invariant_of-self
invariant_of-self g c = record {
  valid = rw (c.beside.ensures.mask, c.beside.ensures.walk) c.args.self.now.valid;
  alive = c.args.self.now.alive;
}
