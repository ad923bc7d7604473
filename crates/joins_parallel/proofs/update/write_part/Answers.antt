use Rattle.std.proofs.Common.{subst, arith}
use Rattle.std.specs.Vec.Iter.{into_iter_items}
use Rattle.std.proofs.lemmas.List.{nil_from_length}
use Rattle.joins_parallel.proofs.Replacing.{IsPutting, all_put, put_one, put_all_of, room_for_one, is_present}
use Rattle.joins_parallel.proofs.update.write_part.Goals as goal

pub loop-id-init : goal.loop-id-init
loop-id-init g c = (tt, tt, rw c.into_iter-id-iterator.ensures.into_iter_gives.0 (all_put c.args.storage.now c.args.part.items c.requires.present c.requires.room))

pub replace-requires-clause-present : goal.replace-requires-clause-present
replace-requires-clause-present g c =
    is_present _ c.args.storage.now _ _ (c.in-Some.id, c.in-Some.value) (subst (λ ps. IsPutting c.loop-id.storage c.args.storage.now ps c.args.part.items) c.in-Some.ensures.steps.0 c.loop-id.invariant.2)

pub replace-requires-clause-room : goal.replace-requires-clause-room
replace-requires-clause-room g c =
    room_for_one _ c.args.storage.now _ _ (c.in-Some.id, c.in-Some.value) (subst (λ ps. IsPutting c.loop-id.storage c.args.storage.now ps c.args.part.items) c.in-Some.ensures.steps.0 c.loop-id.invariant.2)

pub loop-id-preserved : goal.loop-id-preserved
loop-id-preserved g c =
    let w = subst (λ ps. IsPutting c.loop-id.storage c.args.storage.now ps c.args.part.items) c.in-Some.ensures.steps.0 c.loop-id.invariant.2 in
    (tt, tt, put_one _ c.replace.new.storage c.args.storage.now _ _ (c.in-Some.id, c.in-Some.value) w c.replace.ensures.becomes c.replace.ensures.keys)

pub returns : goal.returns
returns g c = put_all_of _ _ _ (subst (λ ps. IsPutting c.loop-id.storage c.args.storage.now ps c.args.part.items) (nil_from_length (into_iter_items c.loop-id.id-iterator) (omega (arith, c.in-None.ensures.steps.0))) c.loop-id.invariant.2)
