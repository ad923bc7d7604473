use Rattle.std.proofs.Common.{◌≡◌, true, false, rules}
use Rattle.std.specs.FinMap as map
use Rattle.entities.specs.Census.{population}
use Rattle.entities.specs.Population.{index_of}
use Rattle.storages.specs.Life.{is_alive}
use Rattle.specs.proofs.Marked.{given, left_after, refused_by, lacks_now}
use Rattle.specs.proofs.typed.field_marks.mark_in.Goals as goal

pub returns-clause-ok : goal.returns-clause-ok
returns-clause-ok g c =
    let alive : is_alive (population c.args.entities.now) c.args.e ≡ true = search rules in
    let none : map.contains_key c.args.storage.now.map (index_of c.args.e) ≡ false = search rules in
    given c.args.entities.now c.args.storage.now c.args.e alive none g.M.Marker.id_of g.M.Identifier.PartialEq.eq (g.A.MarkerAllocator.MayBeNew c.args.allocator.now) (g.A.MarkerAllocator.mapping c.args.allocator.now) (g.A.MarkerAllocator.mapping c.give.new.allocator) c.give.new.storage c.give.result c.give.ensures.alive c.give.ensures.was c.give.ensures.new

pub returns-clause-ids : goal.returns-clause-ids
returns-clause-ids g c = left_after c.give.result _ _ c.give.ensures.takes c.give.ensures.old_ids

pub returns-clause-refused : goal.returns-clause-refused
returns-clause-refused g c =
    let alive : is_alive (population c.args.entities.now) c.args.e ≡ true = search rules in
    let none : map.contains_key c.args.storage.now.map (index_of c.args.e) ≡ false = search rules in
    refused_by c.give.result _ _ _ c.args.e (lacks_now c.args.entities.now c.args.storage.now c.args.e alive none) c.give.ensures.used_up c.give.ensures.drawn c.give.ensures.memory c.give.ensures.refused
