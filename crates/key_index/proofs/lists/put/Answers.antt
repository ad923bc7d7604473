use Rattle.std.proofs.Common.{refl, Some, sym, subst}
use Rattle.std.specs.Prelude.{IsSome}
use Rattle.std.proofs.lemmas.Result.{on_ok_weaker}
use Rattle.key_index.specs.Indices.{with_index}
use Rattle.key_index.proofs.Changing.{changed}
use Rattle.key_index.proofs.lists.put.Goals as goal

pub returns-in-Some-get_mut-clause-ok : goal.returns-in-Some-get_mut-clause-ok
returns-in-Some-get_mut-clause-ok g c =
    let holds = c.get_mut.follows.holds c.put_into.new.list in
    let there = c.in-Some-get_mut.ensures.value in
    let some = subst IsSome there refl in
    rw c.in-Some.is
    (on_ok_weaker c.put_into.result
    (λ ok q up. changed g.met.Q.Ord.total c.args.lists.now (c.get_mut.follows.lender c.put_into.new.list) c.new.result c.in-Some.key (Some c.in-Some-get_mut.list.now) c.put_into.new.list (with_index c.args.id) c.new.ensures
    (λ x. (holds.3 some).0 x) (sym there) ok q up)
    c.put_into.ensures.ok)
