use Rattle.std.proofs.Common.{◌≡◌, ◌||◌, ℕ, true, eqb, eq-eqb, inl, inr, ⊎_elim, sym, ap, ◌∙◌, arith}
use Rattle.std.proofs.lemmas.Bool.{cases_eq, cases_lt, cases_Bool, ne_eqb, or_left, or_right}
use Rattle.std.specs.Cmp.{both_ways}
use Rattle.hibits.specs.Sets.{has_part_zero}
use Rattle.entities.specs.Census.{has}
use Rattle.entities.proofs.Kept.Sets.{has-insert, on_ok}
use Rattle.entities.proofs.allocator.merging.add_all.Goals as goal

pub loop-i-preserved : goal.loop-i-preserved
loop-i-preserved c =
    let others = c.args.others.now.members in
    let before = c.loop-i.indices.members in
    let i = c.in-Some.i in
    let is : has others i ≡ true = sym (has_part_zero others i) ∙ c.in-Some.ensures.next.member in
    let added = on_ok c.add.result (c.add.ensures.had_room (c.loop-i.invariant.room i (c.requires i is).0)) c.add.ensures.members in
    let at : (q : ℕ) → has c.add.new.self.members q ≡ (eqb q i || has before q) = λ q. ap (λ m. has m q) added ∙ has-insert before i q in
    let stays : (q : ℕ) → has before q ≡ true → has c.add.new.self.members q ≡ true = λ q h. at q ∙ or_right (eqb q i) (has before q) h in
    record {
      walk = c.in-Some.ensures.walk;
      kept = λ q h. stays q (c.loop-i.invariant.kept q h);
      added = λ q h lt.
          elim (cases_eq q i) [
            | inl e ↦ at q ∙ or_left (eqb q i) (has before q) (eq-eqb q i e)
            | inr ne ↦
                elim (cases_lt q c.loop-i.walk.from) [
                  | inl b ↦ stays q (c.loop-i.invariant.added q h b)
                  | inr ge ↦ absurd (c.in-Some.ensures.next.first q ge (omega (arith, ne, lt, c.in-Some.ensures.after)) (has_part_zero others q ∙ h))
                ]
          ];
      within = λ q h.
          elim (cases_eq q i) [
            | inl e ↦ inr (ap (has others) e ∙ is)
            | inr ne ↦ c.loop-i.invariant.within q (ap (λ b. b || has before q) (sym (ne_eqb q i ne)) ∙ sym (at q) ∙ h)
          ];
      room = λ q h. c.add.ensures.room q (c.loop-i.invariant.room q h);
    }

pub returns-clause-members : goal.returns-clause-members
returns-clause-members c i =
    let others = c.args.others.now.members in
    let before = c.args.indices.now.members in
    both_ways _ _
    (λ h. ⊎_elim (or_left (has before i) (has others i)) (or_right (has before i) (has others i)) (c.loop-i.invariant.within i h))
    (λ h.
    elim (cases_Bool (has before i)) [
      | inl was ↦ c.loop-i.invariant.kept i was
      | inr not ↦
          let other : has others i ≡ true = ap (λ b. b || has others i) (sym not) ∙ h in
          elim (cases_lt i c.loop-i.walk.from) [
            | inl b ↦ c.loop-i.invariant.added i other b
            | inr ge ↦ absurd (c.in_default.ensures.end i ge (c.requires i other).1 (has_part_zero others i ∙ other))
          ]
    ])
