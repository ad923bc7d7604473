use Rattle.std.proofs.Common.{◌∙◌, ◌+◌, sym, subst, drop}
use Rattle.storages.specs.Slot.{Slot}
use Rattle.storages.proofs.Removals.{IsOnTheWay, room_left, taken_one, passed_one}
use Rattle.storages.proofs.masked.MaskedStorage.drop_all.Goals as goal
use Rattle.storages.proofs.masked.MaskedStorage.drop_all.Goals.{then-contains, else-contains}

pub drop_present-requires-clause-ready : goal.drop_present-requires-clause-ready
drop_present-requires-clause-ready g c = room_left c.loop-e.self c.args.self.now c.args.list.now c.loop-e.e-index _ c.id-id.result c.loop-e-test.true c.id-id.ensures c.loop-e.invariant

pub loop-e-preserved : goal.loop-e-preserved
loop-e-preserved g c =
    elim c.if-contains.branch [
      | then-contains w ↦
          subst (λ (t : Slot _). IsOnTheWay t c.args.self.now (drop (c.loop-e.e-index + 1) c.args.list.now) c.args.list.now) (sym w.self-is)
          (taken_one c.loop-e.self c.args.self.now c.args.list.now c.loop-e.e-index _ c.id-id.result c.loop-e-test.true c.id-id.ensures c.loop-e.invariant _ (sym c.contains.ensures ∙ w.if-contains.true) w.drop_present.ensures)
      | else-contains w ↦
          subst (λ (t : Slot _). IsOnTheWay t c.args.self.now (drop (c.loop-e.e-index + 1) c.args.list.now) c.args.list.now) (sym w.self-is)
          (passed_one c.loop-e.self c.args.self.now c.args.list.now c.loop-e.e-index _ c.id-id.result c.loop-e-test.true c.id-id.ensures c.loop-e.invariant (sym c.contains.ensures ∙ w.if-contains.false))
    ]
