use Rattle.std.proofs.Common.{◌≡◌, ◌+◌, ◌*◌, ◌/◌, ◌-◌, refl, arith, inl, inr}
use Rattle.std.proofs.lemmas.Bool.{cases_lt}
use Rattle.hibits.specs.declared.limits.TheConstants.{LAYERS}
use Rattle.hibits.specs.Sets.{has_part}
use Rattle.hibits.proofs.FirstLemmas.{in_word, not_in_word, lowest_in_word, none_above, below_place, word_some, layer_small, place_small}
use Rattle.hibits.proofs.bit_set.BitSet.+first_at.Goals as goal

pub returns-then-word-ne0-clause-first : goal.returns-then-word-ne0-clause-first
returns-then-word-ne0-clause-first t c =
    in_word (has_part c.args.self.now.members c.args.level) c.layer_word.result (c.args.from / 64) c.layer_word.type_inv c.layer_word.ensures.bits c.args.from refl _ refl (omega (arith, c.if-word-ne0.true))

pub returns-then-word-ne0-clause-below : goal.returns-then-word-ne0-clause-below
returns-then-word-ne0-clause-below t c =
    let next = in_word (has_part c.args.self.now.members c.args.level) c.layer_word.result (c.args.from / 64) c.layer_word.type_inv c.layer_word.ensures.bits c.args.from refl _ refl (omega (arith, c.if-word-ne0.true)) in
    c.layer_word.ensures.within _ next.member

pub overflow_add-result : goal.overflow_add-result
overflow_add-result t c =
    let next = in_word (has_part c.args.self.now.members c.args.level) c.layer_word.result (c.args.from / 64) c.layer_word.type_inv c.layer_word.ensures.bits c.args.from refl _ refl (omega (arith, c.if-word-ne0.true)) in
    let small = layer_small c.args.level _ (c.layer_word.ensures.within _ next.member) in
    omega arith

pub returns-then-level-eq-LAYERS-clause-first : goal.returns-then-level-eq-LAYERS-clause-first
returns-then-level-eq-LAYERS-clause-first t c j ge e =
    elim (cases_lt j (64 * (c.args.from / 64 + 1))) [
      | inl here ↦ not_in_word (has_part c.args.self.now.members c.args.level) c.layer_word.result (c.args.from / 64) c.layer_word.type_inv c.layer_word.ensures.bits c.args.from refl c.if-word-ne0.false j ge here e
      | inr past ↦
          let small = c.layer_word.ensures.within j e in
          let last : LAYERS - c.args.level ≡ 1 = omega (arith, c.if-level-eq-LAYERS.true) in
          let lt = rw last at small in
          omega arith
    ]

pub overflow_mul-result : goal.overflow_mul-result
overflow_mul-result t c =
    let small = place_small c.args.level c.in-Some.place c.in-Some.ensures.below in
    omega arith

pub returns-in-Some-clause-first : goal.returns-in-Some-clause-first
returns-in-Some-clause-first t c =
    let next = c.in-Some.ensures.first in
    let some = word_some c.args.self.now.members c.args.level c.in-Some.place c.layer_word-in-Some.result next.member c.layer_word-in-Some.ensures.bits in
    below_place c.args.self.now.members c.args.level c.args.from
    (not_in_word (has_part c.args.self.now.members c.args.level) c.layer_word.result (c.args.from / 64) c.layer_word.type_inv c.layer_word.ensures.bits c.args.from refl c.if-word-ne0.false)
    c.in-Some.place next _ (lowest_in_word (has_part c.args.self.now.members c.args.level) c.layer_word-in-Some.result c.in-Some.place c.layer_word-in-Some.type_inv c.layer_word-in-Some.ensures.bits some)

pub returns-in-Some-clause-below : goal.returns-in-Some-clause-below
returns-in-Some-clause-below t c =
    let next = c.in-Some.ensures.first in
    let some = word_some c.args.self.now.members c.args.level c.in-Some.place c.layer_word-in-Some.result next.member c.layer_word-in-Some.ensures.bits in
    let first = lowest_in_word (has_part c.args.self.now.members c.args.level) c.layer_word-in-Some.result c.in-Some.place c.layer_word-in-Some.type_inv c.layer_word-in-Some.ensures.bits some in
    c.layer_word.ensures.within _ first.member

pub overflow_add-result-in-Some : goal.overflow_add-result-in-Some
overflow_add-result-in-Some t c =
    let next = c.in-Some.ensures.first in
    let some = word_some c.args.self.now.members c.args.level c.in-Some.place c.layer_word-in-Some.result next.member c.layer_word-in-Some.ensures.bits in
    let first = lowest_in_word (has_part c.args.self.now.members c.args.level) c.layer_word-in-Some.result c.in-Some.place c.layer_word-in-Some.type_inv c.layer_word-in-Some.ensures.bits some in
    let small = layer_small c.args.level _ (c.layer_word.ensures.within _ first.member) in
    omega arith

pub returns-in-None-clause-first : goal.returns-in-None-clause-first
returns-in-None-clause-first t c =
    none_above c.args.self.now.members c.args.level c.args.from
    (not_in_word (has_part c.args.self.now.members c.args.level) c.layer_word.result (c.args.from / 64) c.layer_word.type_inv c.layer_word.ensures.bits c.args.from refl c.if-word-ne0.false)
    c.in-None.ensures.first
