use Rattle.std.proofs.Common.{◌+◌, ◌≡◌, refl, subst, arith, slice_index_or}
use Rattle.std.specs.Fork.{ChangesAt}
use Rattle.joins_parallel.proofs.sharing.change_shared.Goals as goal

pub returns-then-threads-eq1 : goal.returns-then-threads-eq1
returns-then-threads-eq1 g c i d lt =
    let place : 0 + i ≡ i = omega arith in
    (refl, subst (λ k. ChangesAt g.F.Fn c.args.f.now k (slice_index_or c.args.slice.now i d) (slice_index_or c.change_in_turn.new.slice i d)) place (c.change_in_turn.ensures.each i d lt))

pub returns : goal.returns
returns g c i d lt =
    let place : 0 + i ≡ i = omega arith in
    (refl, subst (λ k. ChangesAt g.F.Fn c.args.f.now k (slice_index_or c.args.slice.now i d) (slice_index_or c.change_from.new.slice i d)) place (c.change_from.ensures.each i d lt))
