use Rattle.std.proofs.Common.{sym, ◌∙◌}
use Rattle.key_index.specs.Keys.{list_at}
use Rattle.key_index.proofs.Exchanging.{moves}
use Rattle.key_index.proofs.lists.exchange.Goals as goal

pub returns-clause-ok : goal.returns-clause-ok
returns-clause-ok g c = record {
  each = λ q p p' was is others listed.
      moves g.met.Q.Ord.total c.args.old c.args.new (sym c.is_same.ensures ∙ c.if-is_same.false) c.args.id c.requires q p p' was is others
      (list_at g.Q.Ord.cmp c.args.lists.now q) (list_at g.Q.Ord.cmp c.put.new.lists q) (list_at g.Q.Ord.cmp c.take_out.new.lists q) listed (c.in_ok-put.ensures.ok q) (c.take_out.ensures q);
}
