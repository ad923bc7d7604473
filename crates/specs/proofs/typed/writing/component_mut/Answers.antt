use Rattle.std.proofs.Common.{rules, refl, ap, Some}
use Rattle.std.proofs.lemmas.Option.{same_Some}
use Rattle.specs.proofs.Values.{loan_refused}
use Rattle.specs.proofs.typed.writing.component_mut.Goals as goal

pub returns : goal.returns
returns g c =
    let slot = c.here-storage.result.now in
    let after = c.get_mut.follows in (
      (
        refl,
        (λ w. record { slot = slot; left = after.lender w; there = c.here-storage.ensures.slot; writes = after.holds w; now = refl }),
        record { slot = slot; left = after.lender-at-none; there = c.here-storage.ensures.slot; refuses = after.holds-at-none; now = refl },
      ),
      record {
        writes_back = tt;
        value = search rules;
        absent = rw c.here-storage.ensures.slot (λ h. ap Some (c.get_mut.ensures.absent.0 h), λ h. c.get_mut.ensures.absent.1 (same_Some _ _ h));
        refused = rw c.here-storage.ensures.slot (loan_refused slot c.args.id c.get_mut.result c.needs_room-heard.result c.get_mut.ensures.absent c.get_mut.ensures.succeeds c.needs_room-heard.ensures.told c.needs_room-heard.ensures.wanted);
        succeeds = rw c.here-storage.ensures.slot (λ h. c.get_mut.ensures.succeeds h.0 h.1);
      },
    )
