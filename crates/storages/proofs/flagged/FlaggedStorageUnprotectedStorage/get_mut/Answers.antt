use Rattle.std.proofs.Common.{◌≡◌, ◌∙◌, ap, refl, rules, ◌+◌, true, subst, Some}
use Rattle.std.specs.Prelude.{IfOk}
use Rattle.storages.specs.declared.event.ComponentEvent.TheVariants.{Modified}
use Rattle.storages.specs.Unread.{written}
use Rattle.storages.proofs.Telling.{writes, refuses}
use Rattle.storages.proofs.flagged.FlaggedStorageUnprotectedStorage.get_mut.Goals as goal

pub returns : goal.returns
returns g c =
    let kept = c.in_ok-reserve.ensures.keeps in
    let on : c.args.self.now.event_emission ≡ true = search rules in
    let same = c.in_ok-reserve_events.ensures.keeps in
    let is_ok = c.get_mut-2.ensures.succeeds c.in_ok-reserve_events.ensures.ok in (
      (
        refl,
        (λ w. writes _ _ _ _ _ _ _ _ _ on
            (c.write_reserved.ensures.registered ∙ kept.registered)
            (c.write_reserved.ensures.readers ∙ ap (written (Modified c.args.id)) kept.readers)
            (c.write_reserved.ensures.needs_room ∙ kept.needs_room)
            (λ n h. c.write_reserved.ensures.room n (kept.room (n + 1) h))
            same
            (c.get_mut-2.follows.holds w)),
        refuses _ _ _ _ _ _ _ is_ok same c.get_mut-2.follows.holds-at-none,
      ),
      record {
        writes_back = tt;
        value = subst (λ o. IfOk c.get_mut-2.result (λ x. o ≡ Some x.now)) (same.at c.args.id) c.get_mut-2.ensures.value;
        succeeds = λ _. is_ok;
      },
    )
