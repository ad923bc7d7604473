use Rattle.std.proofs.Common.{◌/◌, arith}
use Rattle.std.specs.Fork.{AcceptsAt, ChangesAt}
use Rattle.joins_parallel.proofs.Parts.{second_part, both_parts}
use Rattle.joins_parallel.proofs.sharing.+shares.Goals as goal

pub change_from-change_both-requires-clause-back : goal.change_from-change_both-requires-clause-back
change_from-change_both-requires-clause-back g t c κs within =
    let cut = c.split_at_mut-low.ensures in
    let r = c.requires in
    let l = r.long in let m = r.room in let f = r.filled in let s = r.some in let b = cut.back_len in
    record {
      some = r.some;
      filled = omega arith;
      room = omega (arith, m);
      long = omega (arith, b, l);
      each = second_part (AcceptsAt g.F.Fn c.args.f.now) c.args.base (c.args.count / 2) _ _ _ cut.value cut.front_len r.each;
    }

pub change_from-change_from-requires-after_bounds : goal.change_from-change_from-requires-after_bounds
change_from-change_from-requires-after_bounds g t c κs within =
    let cut = c.split_at_mut-low-else-take_turn.ensures in
    let r = c.requires in
    let l = r.long in let m = r.room in let f = r.filled in let s = r.some in let b = cut.back_len in let w = c.if-count-block.false in
    record {
      some = r.some;
      filled = omega (arith, w);
      room = omega (arith, m, w);
      long = omega (arith, b, l);
      each = second_part (AcceptsAt g.F.Fn c.args.f.now) c.args.base c.args.block _ _ _ cut.value cut.front_len r.each;
    }

pub change_from-returns-then-take_turn : goal.change_from-returns-then-take_turn
change_from-returns-then-take_turn g t c =
    let cut = c.split_at_mut-low.ensures in
    both_parts (ChangesAt g.F.Fn c.args.f.now) c.args.base (c.args.count / 2) _ _ _ _ _ cut.value cut.front_len c.change_both.ensures.front c.change_both.ensures.back

pub change_from-returns-else-take_turn : goal.change_from-returns-else-take_turn
change_from-returns-else-take_turn g t c =
    let cut = c.split_at_mut-low-else-take_turn.ensures in
    both_parts (ChangesAt g.F.Fn c.args.f.now) c.args.base c.args.block _ _ _ _ _ cut.value cut.front_len c.change_in_turn-else-take_turn.ensures c.change_from.ensures
