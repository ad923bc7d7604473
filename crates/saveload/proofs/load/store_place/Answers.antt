use Rattle.std.proofs.Common.{rules, ◌≡◌, ap, subst, ◌∙◌, Some}
use Rattle.std.specs.Prelude.{Err}
use Rattle.entities.specs.Population.{index_of}
use Rattle.saveload.specs.Loads.{column, row_put}
use Rattle.saveload.specs.Told.{StoresOnce}
use Rattle.saveload.specs.Told.IsTold.{start}
use Rattle.saveload.proofs.Rows.{column-insert, taken}
use Rattle.saveload.proofs.load.store_place.Goals as goal

pub returns-in_ok-put_at-in-Some-clause-stored : goal.returns-in_ok-put_at-in-Some-clause-stored
returns-in_ok-put_at-in-Some-clause-stored g c = rw c.in-Some.is (λ alive f gives.
    let v : c.in_ok-value-in-Some.value ≡ g.T.ConvertSaveload.conversion.loaded f c.in-Some.saved = c.in_ok-value-in-Some.ensures.exact f (λ m r h p. gives m r h p) in
    column-insert c.args.masked.now c.put_at.new.masked (index_of c.args.entity) c.in_ok-value-in-Some.value c.in_ok-put_at-in-Some.ensures.ok
    ∙ ap (λ x. row_put (column c.args.masked.now) (index_of c.args.entity) (Some x)) v)

pub returns-in_err-value-in-Some-clause-refused : goal.returns-in_err-value-in-Some-clause-refused
returns-in_err-value-in-Some-clause-refused g c = rw c.in-Some.is (λ f gives.
    let same : c.from_residual.result ≡ Err c.in_err-value-in-Some.field-0.0 = search rules in
    rw same (c.in_err-value-in-Some.ensures.refused f (λ m r h p. gives m r h p)))

pub returns-in_ok-take_out-in-None-clause-stored : goal.returns-in_ok-take_out-in-None-clause-stored
returns-in_ok-take_out-in-None-clause-stored g c = rw c.in-None.is (λ alive f gives.
    taken _ c.args.masked.now c.take_out.new.masked (index_of c.args.entity) alive c.in_ok-take_out-in-None.ensures.present c.in_ok-take_out-in-None.ensures.absent)

pub returns-in_err-value-in-Some-clause-told : goal.returns-in_err-value-in-Some-clause-told
returns-in_err-value-in-Some-clause-told g c = start

pub returns-then-not-is_alive-clause-told : goal.returns-then-not-is_alive-clause-told
returns-then-not-is_alive-clause-told g c = start

pub returns-in_ok-put_at-in-Some-clause-once : goal.returns-in_ok-put_at-in-Some-clause-once
returns-in_ok-put_at-in-Some-clause-once g c = rw c.in-Some.is (λ alive f gives.
    let v : c.in_ok-value-in-Some.value ≡ g.T.ConvertSaveload.conversion.loaded f c.in-Some.saved = c.in_ok-value-in-Some.ensures.exact f (λ m r h p. gives m r h p) in
    subst (λ (x : g.row.T.Denot). StoresOnce c.args.masked.now (index_of c.args.entity) (Some x) c.put_at.new.masked) v c.in_ok-put_at-in-Some.ensures.once)

pub returns-in_ok-take_out-in-None-clause-once : goal.returns-in_ok-take_out-in-None-clause-once
returns-in_ok-take_out-in-None-clause-once g c = rw c.in-None.is (λ alive f gives. c.in_ok-take_out-in-None.ensures.once alive)
