use Rattle.std.proofs.Common.{ap, sym, ◌∙◌}
use Rattle.std.specs.Prelude.{option_map}
use Rattle.std.specs.FinMap as map
use Rattle.joins.specs.Held.{value_of}
use Rattle.joins.proofs.Holding.{contains-held, get-held, same_at}
use Rattle.joins.proofs.change_set.ChangeSet.into_parts.Goals as goal

pub returns-clause-mask : goal.returns-clause-mask
returns-clause-mask g c q = c.into_parts.ensures.mask q ∙ sym (contains-held c.self.inside.changes.map q) ∙ ap (λ s. map.contains_key s q) c.self.view_is

pub returns-clause-values : goal.returns-clause-values
returns-clause-values g c q =
    ap (option_map value_of) (same_at _ _ (c.into_parts.ensures.present q) (c.into_parts.ensures.absent q))
    ∙ sym (get-held c.self.inside.changes.map q) ∙ ap (λ s. map.get s q) c.self.view_is
