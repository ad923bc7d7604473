use Rattle.std.proofs.Common.{◌∙◌, refl}
use Rattle.joins.proofs.CursorLemmas.{same_keys, first_rest, not_absent}
use Rattle.joins.proofs.cursors.write_join2.WriteJoin2.first.Goals as goal

pub invariant_of-self-lent : goal.invariant_of-self-lent
invariant_of-self-lent g c r = (
  (λ w. let h = c.lend_present.follows.holds w in
      (rw (same_keys _ _ h.keys.key) c.args.self.now.valid, ((λ x e. h.keys.key x ∙ c.args.self.now.in_first x e), (c.args.self.now.in_second, tt)))),
  (let h = c.lend_present.follows.holds-at-none in
      (rw (same_keys _ _ h.keys.key) c.args.self.now.valid, ((λ x e. h.keys.key x ∙ c.args.self.now.in_first x e), (c.args.self.now.in_second, tt)))),
)

pub returns : goal.returns
returns g c = (
  (
    refl,
    (λ w. let h = c.lend_present.follows.holds w in record {
      stays = record { first_reference = refl; second_reference = refl; here = refl; rest = first_rest _ _ h.keys.key _ _ _; given = refl; gives = λ i r e. e };
      other = refl;
      becomes = rw c.in-Some.is h.becomes;
    }),
    (let h = c.lend_present.follows.holds-at-none in record {
      stays = record { first_reference = refl; second_reference = refl; here = refl; rest = first_rest _ _ h.keys.key _ _ _; given = refl; gives = λ i r e. e };
      other = refl;
      same = h.same;
    }),
  ),
  record {
    writes_back = tt;
    absent = ((λ e. absurd (not_absent c.lend_present.result c.lend_present.ensures.refused e)), (λ e. cc));
    value = rw c.in-Some.is c.lend_present.ensures.value;
    succeeds = λ some room. c.lend_present.ensures.succeeds room;
  },
)
