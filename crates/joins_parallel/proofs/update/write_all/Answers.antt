use Rattle.std.proofs.Common.{subst, arith, flat_map}
use Rattle.std.specs.Vec.Iter.{into_iter_items}
use Rattle.std.proofs.lemmas.List.{nil_from_length}
use Rattle.joins_parallel.proofs.Replacing.{IsPutting, all_put, part_room, part_present, put_part, put_all_of}
use Rattle.joins_parallel.proofs.update.write_all.Goals as goal

pub loop-part-init : goal.loop-part-init
loop-part-init g c = (tt, tt, rw c.into_iter-part-iterator.ensures.into_iter_gives.0 (all_put c.args.storage.now _ c.requires.present c.requires.room))

pub write_part-requires-clause-present : goal.write_part-requires-clause-present
write_part-requires-clause-present g c =
    part_present _ c.args.storage.now _ _ c.in-Some.part.items (subst (λ ws. IsPutting c.loop-part.storage c.args.storage.now (flat_map (λ w. w.items) ws) (flat_map (λ w. w.items) c.args.parts.items)) c.in-Some.ensures.steps.0 c.loop-part.invariant.2)

pub write_part-requires-clause-room : goal.write_part-requires-clause-room
write_part-requires-clause-room g c =
    part_room _ c.args.storage.now _ _ c.in-Some.part.items (subst (λ ws. IsPutting c.loop-part.storage c.args.storage.now (flat_map (λ w. w.items) ws) (flat_map (λ w. w.items) c.args.parts.items)) c.in-Some.ensures.steps.0 c.loop-part.invariant.2)

pub loop-part-preserved : goal.loop-part-preserved
loop-part-preserved g c =
    let w = subst (λ ws. IsPutting c.loop-part.storage c.args.storage.now (flat_map (λ w. w.items) ws) (flat_map (λ w. w.items) c.args.parts.items)) c.in-Some.ensures.steps.0 c.loop-part.invariant.2 in
    (tt, tt, put_part _ c.write_part.new.storage c.args.storage.now _ _ c.in-Some.part.items w c.write_part.ensures)

pub returns : goal.returns
returns g c = put_all_of _ _ _ (subst (λ ws. IsPutting c.loop-part.storage c.args.storage.now (flat_map (λ w. w.items) ws) (flat_map (λ w. w.items) c.args.parts.items)) (nil_from_length (into_iter_items c.loop-part.part-iterator) (omega (arith, c.in-None.ensures.steps.0))) c.loop-part.invariant.2)
