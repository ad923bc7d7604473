use Rattle.std.proofs.Common.{◌≡◌, ◌≤◌, ◌<◌, ◌+◌, ◌%◌, ◌∙◌, ℕ, Bool, true, false, ap, sym, subst, arith, cond}
use Rattle.std.specs.Mem.Slots.{slots_items}
use Rattle.entities.specs.Census.{population}
use Rattle.entities.specs.Population.{Population, lives, mark}
use Rattle.entities.specs.Phase.Rule.{marks_index}
use Rattle.entities.proofs.Phases.Marks.{marks_one, marks_skip, count_more, count_skip, none_in_word}
use Rattle.hibits.specs.Counts.{count_below}
use Rattle.entities.proofs.phase.closing.mark_all.Goals as goal
use Rattle.entities.proofs.phase.closing.mark_all.Goals.{then-is_marked, else-is_marked}

pub loop-index-preserved-then-has_none : goal.loop-index-preserved-then-has_none
loop-index-preserved-then-has_none c =
    let ws = slots_items c.args.ended.now.words.words in
    let k = c.loop-index.index in
    let i = c.loop-index.invariant in
    let start : k % 64 ≡ 0 = omega arith in
    let none : (j : ℕ) → k ≤ j → j < k + 64 → marks_index ws j ≡ false = λ j a b. none_in_word ws k j start (c.has_none.ensures c.if-has_none.true) a b in
    record {
      marked = i.marked ∙ marks_skip (population c.args.entities.now) ws k (k + 64) (omega arith) none;
      count = i.count ∙ sym (count_skip (marks_index ws) k 64 none);
      room = i.room;
      low = omega (arith, i.low);
      within = omega (arith, c.loop-index-test.true, start);
    }

pub overflow_cast-index : goal.overflow_cast-index
overflow_cast-index c = omega (arith, c.requires.words, c.loop-index-test.true)

pub mark_index-requires : goal.mark_index-requires
mark_index-requires c =
    let is : marks_index (slots_items c.args.ended.now.words.words) c.loop-index.index ≡ true = sym c.is_marked.ensures ∙ c.if-is_marked.true in
    subst (λ (p : Population). lives p c.loop-index.index ≡ true) (sym c.loop-index.invariant.marked) (c.requires.alive c.loop-index.index c.loop-index-test.true is)

pub loop-index-preserved : goal.loop-index-preserved
loop-index-preserved c =
    let ws = slots_items c.args.ended.now.words.words in
    let k = c.loop-index.index in
    let i = c.loop-index.invariant in
    elim c.if-is_marked.branch [
      | then-is_marked w ↦
          let is : marks_index ws k ≡ true = sym c.is_marked.ensures ∙ w.if-is_marked.true in
          let more = count_more (marks_index ws) k ∙ ap (λ (b : Bool). cond b 1 0 + count_below (marks_index ws) k) is in
          record {
            marked = rw w.entities-is (w.mark_index.ensures.marked ∙ ap (λ (p : Population). mark p k) i.marked ∙ marks_one (population c.args.entities.now) ws k is);
            count = rw w.marks-is (omega (arith, more, i.count));
            room = rw w.entities-is (w.mark_index.ensures.room ∙ i.room);
            low = rw w.marks-is (omega (arith, i.low));
            within = omega (arith, c.loop-index-test.true);
          }
      | else-is_marked w ↦
          let is : marks_index ws k ≡ false = sym c.is_marked.ensures ∙ w.if-is_marked.false in
          let none : (j : ℕ) → k ≤ j → j < k + 1 → marks_index ws j ≡ false = λ j a b. ap (marks_index ws) (let e : j ≡ k = omega (arith, a, b) in e) ∙ is in
          record {
            marked = rw w.entities-is (i.marked ∙ marks_skip (population c.args.entities.now) ws k (k + 1) (omega arith) none);
            count = rw w.marks-is (i.count ∙ sym (count_skip (marks_index ws) k 1 none));
            room = rw w.entities-is i.room;
            low = rw w.marks-is (omega (arith, i.low));
            within = omega (arith, c.loop-index-test.true);
          }
    ]
