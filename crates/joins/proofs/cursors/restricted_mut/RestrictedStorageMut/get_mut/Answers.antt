use Rattle.std.proofs.Common.{◌∙◌, refl, sym, ap, cond, None}
use Rattle.std.specs.FinMap as map
use Rattle.entities.specs.Population.{index_of}
use Rattle.joins.proofs.CursorLemmas.{same_keys, same_rest}
use Rattle.joins.proofs.cursors.restricted_mut.RestrictedStorageMut.get_mut.Goals as goal

pub invariant_of-self-lent : goal.invariant_of-self-lent
invariant_of-self-lent g c r = (
  (λ w. let h = c.get_mut.follows.holds w in
      (rw (same_keys _ _ h.keys.key) c.args.self.now.valid, ((λ x e. h.keys.key x ∙ c.args.self.now.there x e), tt))),
  (let h = c.get_mut.follows.holds-at-none in
      (rw (same_keys _ _ h.keys.key) c.args.self.now.valid, ((λ x e. h.keys.key x ∙ c.args.self.now.there x e), tt))),
)

pub returns : goal.returns
returns g c =
    let live = sym c.is_living.ensures ∙ c.if-not-is_living.false in
    let same = ap (λ b. cond b (map.get c.args.self.now.storage.now.map (index_of c.args.entity)) None) live ∙ ap (map.get c.args.self.now.storage.now.map) (sym c.id.ensures) in (
      (
        refl,
        (λ w. let h = c.get_mut.follows.holds w in record {
          stays = record { same_reference = refl; entities = refl; here = refl; rest = same_rest _ _ h.keys.key _ _; given = refl; gives = λ i r e. e };
          becomes = rw (sym c.id.ensures) h.becomes;
        }),
        (let h = c.get_mut.follows.holds-at-none in record {
          stays = record { same_reference = refl; entities = refl; here = refl; rest = same_rest _ _ h.keys.key _ _; given = refl; gives = λ i r e. e };
          same = h.same;
        }),
      ),
      record {
        writes_back = tt;
        absent = rw same c.get_mut.ensures.absent;
        value = rw same c.get_mut.ensures.value;
        succeeds = rw same c.get_mut.ensures.succeeds;
      },
    )
