use Rattle.std.proofs.Common.{◌≡◌, sym, ◌∙◌, refl, subst, None}
use Rattle.std.specs.FinMap as map
use Rattle.joins.specs.Changes.{with_change}
use Rattle.joins.specs.Held.{held}
use Rattle.joins.proofs.Holding.{present_there, absent_there, first_there}
use Rattle.joins.proofs.change_set.ChangeSet.add.Goals as goal

pub combine_at-requires : goal.combine_at-requires
combine_at-requires g c = present_there _ _ _ c.self.view_is (sym c.is_there.ensures ∙ c.if-is_there.true)

pub returns-in-Err-clause-memory : goal.returns-in-Err-clause-memory
returns-in-Err-clause-memory g c = λ _. subst (λ i. map.get c.args.self.now i ≡ None) c.id-id.ensures (absent_there _ _ _ c.self.view_is (sym c.is_there.ensures ∙ c.if-is_there.false))

pub returns-clause-ok : goal.returns-clause-ok
returns-clause-ok g c =
    subst (λ i. held c.insert.new.self.map ≡ with_change g.T.Combine.combined c.args.self.now i c.args.value) c.id-id.ensures
    (first_there _ _ _ c.self.view_is _ _ _ _ c.in-Ok.ensures.ok.map refl (sym c.is_there.ensures ∙ c.if-is_there.false))
