use Rattle.std.proofs.Common.{◌∙◌, refl}
use Rattle.joins.proofs.CursorLemmas.{same_keys, same_rest, same_indices, standing_somewhere}
use Rattle.joins.proofs.cursors.change_join.ChangeJoin.item.Goals as goal

pub invariant_of-self-lent : goal.invariant_of-self-lent
invariant_of-self-lent g c r = (
  (λ w. let k = same_indices c.args.self.now.changes.now c.in_ok-id.id w (c.args.self.now.there c.in_ok-id.id c.in_ok-id.was) in
      (rw (same_keys _ _ k) c.args.self.now.valid, ((λ x e. k x ∙ c.args.self.now.there x e), tt))),
  (c.args.self.now.valid, (c.args.self.now.there, tt)),
)

pub returns : goal.returns
returns g c = (
  (
    refl,
    (λ w. let k = same_indices c.args.self.now.changes.now c.in_ok-id.id w (c.args.self.now.there c.in_ok-id.id c.in_ok-id.was) in record {
      stays = record { same_reference = refl; here = refl; rest = same_rest _ _ k _ _; given = refl; gives = λ i r e. e };
      becomes = rw c.in_ok-id.was refl;
    }),
    record { stays = record { same_reference = refl; here = refl; rest = refl; given = refl; gives = λ i r e. e }; same = refl },
  ),
  record {
    writes_back = tt;
    absent = standing_somewhere _ _ _ _ c.in_ok-id.was (c.args.self.now.there c.in_ok-id.id c.in_ok-id.was) c.get_mut.ensures.absent;
    value = rw c.in_ok-id.was c.get_mut.ensures.value;
  },
)
