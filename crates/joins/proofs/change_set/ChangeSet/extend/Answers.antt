use Rattle.std.proofs.Common.{◌≡◌, ◌∷◌, ◌++◌, [], ap, sym, ◌∙◌, refl, rules, arith}
use Rattle.std.specs.Prelude.{Result, Err}
use Rattle.entities.specs.Population.{index_of}
use Rattle.joins.specs.Changes.{with_change, all_changed, StopsIn}
use Rattle.std.proofs.lemmas.List.{nil_from_length}
use Rattle.joins.proofs.Holding.{moved, none_left, all_changed_more}
use Rattle.joins.proofs.change_set.ChangeSet.extend.Goals as goal

err_is : {A E : Type 0} (x y : E) → ◌≡◌ {A = Result A E} (Err x) (Err y) → x ≡ y
err_is x y e = cc

pub loop-entity-init : goal.loop-entity-init
loop-entity-init g c = record { split = c.into_iter-entity-iterator.ensures.into_iter_gives.0; added = refl }

pub loop-entity-preserved : goal.loop-entity-preserved
loop-entity-preserved g c =
    let next : c.loop-entity.entity-iterator.rest.items ≡ (c.in-Some.entity, c.in-Some.value) ∷ c.next.new.self.rest.items = search rules in
    record {
      split = moved c.loop-entity.yielded _ _ ∙ ap (λ r. c.loop-entity.yielded ++ r) (sym next) ∙ c.loop-entity.invariant.split;
      added = c.in_ok-add.ensures.ok ∙ ap (λ m. with_change g.T.Combine.combined m (index_of c.in-Some.entity) c.in-Some.value) c.loop-entity.invariant.added
          ∙ sym (all_changed_more g.T.Combine.combined c.loop-entity.yielded (c.in-Some.entity, c.in-Some.value) _);
    }

pub returns-in_err-add-clause-err : goal.returns-in_err-add-clause-err
returns-in_err-add-clause-err g c =
    let next : c.loop-entity.entity-iterator.rest.items ≡ (c.in-Some.entity, c.in-Some.value) ∷ c.next.new.self.rest.items = search rules in
    let same : c.from_residual.result ≡ Err c.in_err-add.field-0.0 = search rules in
    let add = c.add.ensures in
    let stop : StopsIn g.T.Combine.combined g.T.Combine.may_refuse c.args.list.items c.args.self.now c.add.new.self c.in_err-add.field-0.0 = record {
      accepted = c.loop-entity.yielded;
      refused = (c.in-Some.entity, c.in-Some.value);
      rest = c.next.new.self.rest.items;
      list = sym (ap (λ r. c.loop-entity.yielded ++ r) (sym next) ∙ c.loop-entity.invariant.split);
      before = c.in_err-add.ensures.err ∙ c.loop-entity.invariant.added;
      why = rw c.in_err-add.ensures.err (record {
        refused = λ is. add.refused (c.in_err-add.was ∙ ap Err is);
        limit = ((λ is. add.limit.0 (c.in_err-add.was ∙ ap Err is)), (λ le. err_is _ _ (sym c.in_err-add.was ∙ add.limit.1 le)));
        memory = λ is. add.memory (c.in_err-add.was ∙ ap Err is);
      });
    } in
    rw same stop

pub returns-clause-ok : goal.returns-clause-ok
returns-clause-ok g c =
    let end : c.loop-entity.entity-iterator.rest.items ≡ [] = nil_from_length _ (omega (arith, c.in-None.ensures.steps.0)) in
    c.loop-entity.invariant.added ∙ ap (λ xs. all_changed g.T.Combine.combined xs c.args.self.now) (sym (none_left c.loop-entity.yielded) ∙ ap (λ r. c.loop-entity.yielded ++ r) (sym end) ∙ c.loop-entity.invariant.split)
