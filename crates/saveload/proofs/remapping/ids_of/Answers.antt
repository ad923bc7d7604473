use Rattle.std.proofs.Common.{◌≡◌, ◌∙◌, None, ap, take, get_or, rules}
use Rattle.std.specs.HashMap as hash
use Rattle.std.specs.Prelude.{pos}
use Rattle.std.proofs.lemmas.List.{take_more}
use Rattle.entities.specs.Population.{index_of}
use Rattle.saveload.specs.Naming.{ids_in}
use Rattle.saveload.specs.Remapping.{put_own}
use Rattle.saveload.proofs.Remapped.{put_all_more}
use Rattle.saveload.proofs.remapping.ids_of.Goals as goal

pub loop-e-preserved : goal.loop-e-preserved
loop-e-preserved g c =
    let eq = g.M.Identifier.PartialEq.eq in
    let id_at = ids_in g.M.Marker.id_of c.args.storage.now in
    let e = get_or c.args.list.now c.loop-e.e-index (0, record { 0 = pos 0 }) in
    let put : hash.get eq c.map_to.new.ids ≡ put_own eq (id_at (index_of e)) e (hash.get eq c.loop-e.ids) = search rules in
    rw (take_more c.args.list.now c.loop-e.e-index (0, record { 0 = pos 0 }) c.loop-e-test.true, put_all_more eq id_at (take c.loop-e.e-index c.args.list.now) e (λ _. None))
    (put ∙ ap (put_own eq (id_at (index_of e)) e) c.loop-e.invariant)
