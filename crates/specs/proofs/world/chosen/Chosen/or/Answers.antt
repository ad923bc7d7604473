use Rattle.std.proofs.Common.{◌≡◌, Bool, true, false, not, ◌&&◌, ◌||◌, refl, ap, ◌∙◌}
use Rattle.specs.specs.World.Sets.{is_chosen}
use Rattle.specs.proofs.world.chosen.Chosen.or.Goals as goal

not_neither : (a b : Bool) → not (not a && not b) ≡ a || b
not_neither true b = refl
not_neither false true = refl
not_neither false false = refl

pub returns : goal.returns
returns c i lt =
    c.turned-3.ensures i
    ∙ ap not (c.in_ok-neither.ensures i lt ∙ (rw (c.turned.ensures i, c.turned-2.ensures i) refl))
    ∙ not_neither (is_chosen c.args.self i) (is_chosen c.args.other i)
