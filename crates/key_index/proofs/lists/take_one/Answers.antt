use Rattle.std.proofs.Common.{refl, Some, sym, subst}
use Rattle.std.specs.Prelude.{IsSome}
use Rattle.key_index.specs.Indices.{without_index}
use Rattle.key_index.proofs.Changing.{changed}
use Rattle.key_index.proofs.lists.take_one.Goals as goal

pub returns-in-Some-clause-list : goal.returns-in-Some-clause-list
returns-in-Some-clause-list g c q up =
    let holds = c.get_mut.follows.holds c.take_out_of.new.list in
    let there = c.in-Some.ensures.value in
    let some = subst IsSome there refl in
    changed g.met.Q.Ord.total c.args.lists.now (c.get_mut.follows.lender c.take_out_of.new.list) c.new.result c.args.key (Some c.in-Some.list.now) c.take_out_of.new.list (without_index c.args.id) c.new.ensures
    (λ x. (holds.3 some).0 x) (sym there) c.take_out_of.ensures q up
