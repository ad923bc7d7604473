use Rattle.std.proofs.Common.{rules, ◌≡◌, true, slice_index_or, Some, length, nat_le, ap, ◌∙◌, flat_map}
use Rattle.std.specs.Prelude.{◌&&◌, IsOk}
use Rattle.std.specs.FinMap as map
use Rattle.std.specs.Borrow.{Bor}
use Rattle.std.specs.Ordering.{nat_cmp}
use Rattle.rayon.proofs.ListFacts.{AllZip-weaken}
use Rattle.hibits.specs.Left.{left}
use Rattle.hibits.specs.Sets.{has_part_zero}
use Rattle.hibits.specs.Words.{words-empty}
use Rattle.joins_parallel.specs.declared.cut.TheConstants.{LEAST_WORDS}
use Rattle.joins_parallel.specs.Cutting.{listed}
use Rattle.joins_parallel.proofs.Each.{update_each, update_others}
use Rattle.joins_parallel.proofs.Replacing.{each_left, each_right, given_each, few_given, none_given, zip_lengths, after_room, room_for_none, puts_given}
use Rattle.joins_parallel.proofs.update.par_update.Goals as goal

pub made_of-requires-clause-called : goal.made_of-requires-clause-called
made_of-requires-clause-called g c κs within k d lt x z is w =
    let e = c.in_ok-cut.ensures.indices ∙ ap (λ p. left p 0) (λ t i. (has_part_zero c.mask.result.now.members i ∙ c.mask.ensures i) t && c.open-mask.ensures.mask i t) in
    c.requires.called _ x z is (each_right (λ i. map.contains_key c.args.storage.now.map i) (g.J.Join.has c.args.join) _ e k d lt) (c.open-mask.ensures.gives _ z (g.met.J.RepeatableJoin.same _ _ z w))

pub made_of-requires-clause-present : goal.made_of-requires-clause-present
made_of-requires-clause-present g c κs within =
    let e = c.in_ok-cut.ensures.indices ∙ ap (λ p. left p 0) (λ t i. (has_part_zero c.mask.result.now.members i ∙ c.mask.ensures i) t && c.open-mask.ensures.mask i t) in
    each_left (λ i. map.contains_key c.args.storage.now.map i) (g.J.Join.has c.args.join) _ e

pub made_of-requires-clause-ready : goal.made_of-requires-clause-ready
made_of-requires-clause-ready g c κs within k d lt =
    let e = c.in_ok-cut.ensures.indices ∙ ap (λ p. left p 0) (λ t i. (has_part_zero c.mask.result.now.members i ∙ c.mask.ensures i) t && c.open-mask.ensures.mask i t) in
    g.met.J.RepeatableJoin.ready _ _ (c.open-mask.ensures.ready _ (each_right (λ i. map.contains_key c.args.storage.now.map i) (g.J.Join.has c.args.join) _ e k d lt))

pub values_count-requires : goal.values_count-requires
values_count-requires g c =
    let made = c.in_ok-made.ensures.made in
    few_given _ (listed c.in_ok-cut.cut) made.0 _ (ap (flat_map (λ w. w.items)) c.deref.ensures.value ∙ made.2) c.in_ok-cut.ensures.indices

pub write_all-requires-clause-present : goal.write_all-requires-clause-present
write_all-requires-clause-present g c =
    let e = c.in_ok-cut.ensures.indices ∙ ap (λ p. left p 0) (λ t i. (has_part_zero c.mask.result.now.members i ∙ c.mask.ensures i) t && c.open-mask.ensures.mask i t) in
    let made = c.in_ok-made.ensures.made in
    rw made.2
    (given_each (λ i. map.contains_key c.reserve_events.new.self.map i ≡ true) (listed c.in_ok-cut.cut) made.0 (λ k d lt.
    ap (λ (m : map.FinMap nat_cmp g.row.T.Denot). map.contains_key m (slice_index_or (listed c.in_ok-cut.cut) k d)) c.reserve_events.ensures.same.map
    ∙ each_left (λ i. map.contains_key c.args.storage.now.map i) (g.J.Join.has c.args.join) (listed c.in_ok-cut.cut) e k d lt))

pub returns-clause-ok : goal.returns-clause-ok
returns-clause-ok g c =
    let e = c.in_ok-cut.ensures.indices ∙ ap (λ p. left p 0) (λ t i. (has_part_zero c.mask.result.now.members i ∙ c.mask.ensures i) t && c.open-mask.ensures.mask i t) in
    let made = c.in_ok-made.ensures.made in
    record {
      values = made.0;
      asked = rw e at (AllZip-weaken
          (λ i y. (x : Bor g.row.T.Denot) × (z : g.row.J-Type.Denot) × (map.get c.args.storage.now.map i ≡ Some x.now) × g.J.Value.Lookup.finds c.open-mask.result.1 i z × goal.F-post g c.args.f x z y)
          (λ i y. (x : Bor g.row.T.Denot) × (z : g.row.J-Type.Denot) × (map.get c.args.storage.now.map i ≡ Some x.now) × g.J.Join.gives c.args.join i z × goal.F-post g c.args.f x z y)
          (λ i y w. (w.0, w.1, w.2, c.open-mask.ensures.gives i w.1 (g.met.J.RepeatableJoin.same _ i w.1 w.3), w.4)) _ _ made.1);
      replaces = rw e at (after_room _ _ _ _ _ c.reserve_events.ensures.same (puts_given _ _ (listed c.in_ok-cut.cut) made.0 (zip_lengths _ _ _ made.1) (rw made.2 at c.write_all.ensures)));
    }

pub returns-clause-each : goal.returns-clause-each
returns-clause-each g c = update_each _ _ _ _ _ (returns-clause-ok g c)

pub returns-clause-others : goal.returns-clause-others
returns-clause-others g c = update_others _ _ _ _ _ (returns-clause-ok g c)

pub returns-in_err-cut-clause-idle : goal.returns-in_err-cut-clause-idle
returns-in_err-cut-clause-idle g c none =
    let tail = ap (λ p. left p 0) (λ t i. (has_part_zero c.mask.result.now.members i ∙ c.mask.ensures i) t && c.open-mask.ensures.mask i t) in
    let idle : IsOk c.cut_of.result = c.cut_of.ensures.idle (tail ∙ none) in
    search rules

pub returns-in_err-made-clause-idle : goal.returns-in_err-made-clause-idle
returns-in_err-made-clause-idle g c none =
    let tail = ap (λ p. left p 0) (λ t i. (has_part_zero c.mask.result.now.members i ∙ c.mask.ensures i) t && c.open-mask.ensures.mask i t) in
    let by_indices = c.in_ok-cut.ensures.at_words ∙ ap (λ ws. nat_le LEAST_WORDS (length ws)) (words-empty _ 0 (tail ∙ none)) in
    let idle = c.made_of.ensures.idle by_indices (c.in_ok-cut.ensures.indices ∙ tail ∙ none) in
    search rules

pub returns-in_err-reserve_events-clause-idle : goal.returns-in_err-reserve_events-clause-idle
returns-in_err-reserve_events-clause-idle g c none =
    let tail = ap (λ p. left p 0) (λ t i. (has_part_zero c.mask.result.now.members i ∙ c.mask.ensures i) t && c.open-mask.ensures.mask i t) in
    let made = c.in_ok-made.ensures.made in
    let empty = c.values_count.ensures ∙ ap (λ ws. length (flat_map (λ w. w.items) ws)) c.deref.ensures.value ∙ ap length made.2 ∙ none_given (listed c.in_ok-cut.cut) made.0 (c.in_ok-cut.ensures.indices ∙ tail ∙ none) in
    let idle : IsOk c.reserve_events.result = c.reserve_events.ensures.succeeds (room_for_none _ _ empty) in
    search rules
