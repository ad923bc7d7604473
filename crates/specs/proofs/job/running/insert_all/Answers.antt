use Rattle.std.proofs.Common.{◌≡◌, ◌<◌, Bool, true, false, [], ◌∷◌, ◌++◌, refl, sym, ap, ◌∙◌, subst, rules, arith, append-nil}
use Rattle.std.proofs.lemmas.List.{nil_from_length}
use Rattle.std.specs.VecDeque.{deque_len, deque_capacity}
use Rattle.specs.specs.World.State.{core_state}
use Rattle.specs.specs.Job.Jobs.{InsertStep, InsertsAll}
use Rattle.specs.proofs.Inserted.{Inserting, insert_next, keeps_rest}
use Rattle.specs.proofs.job.running.insert_all.Goals as goal

pub loop-e-init : goal.loop-e-init
loop-e-init g c = record {
  inserting = record { done = []; parts = sym c.from_vec-left.ensures.items; inserted = (refl, refl) };
  few = search rules;
}

pub loop-e-preserved-then-counted : goal.loop-e-preserved-then-counted
loop-e-preserved-then-counted g c =
    let state = core_state g.S.Held.table g.S.Held.ids in
    let step = subst (λ (b : Bool). InsertStep g.S.Held.place (state c.loop-e.core) c.in-Some.e c.in-Some.value b (state c.insert_one.new.core)) c.if-counted.true c.in-Ok.ensures.ok in
    record {
      inserting = insert_next g.S.Held.place (state c.args.core.now) (state c.loop-e.core) (state c.insert_one.new.core) c.args.pairs.items c.loop-e.left.items c.pop_front.new.self.items c.loop-e.refused c.in-Some.e c.in-Some.value true c.loop-e.invariant.inserting c.in-Some.ensures.items step;
      few = omega (arith, c.loop-e.invariant.few, c.in-Some.ensures.len);
    }

pub loop-e-preserved : goal.loop-e-preserved
loop-e-preserved g c =
    let state = core_state g.S.Held.table g.S.Held.ids in
    let step = subst (λ (b : Bool). InsertStep g.S.Held.place (state c.loop-e.core) c.in-Some.e c.in-Some.value b (state c.insert_one.new.core)) c.if-counted.false c.in-Ok.ensures.ok in
    let next = insert_next g.S.Held.place (state c.args.core.now) (state c.loop-e.core) (state c.insert_one.new.core) c.args.pairs.items c.loop-e.left.items c.pop_front.new.self.items c.loop-e.refused c.in-Some.e c.in-Some.value false c.loop-e.invariant.inserting c.in-Some.ensures.items step in
    record {
      inserting = subst (λ n. Inserting g.S.Held.place (state c.args.core.now) c.args.pairs.items c.pop_front.new.self.items n (state c.insert_one.new.core)) (omega arith) next;
      few = omega (arith, c.loop-e.invariant.few, c.in-Some.ensures.len);
    }

pub returns-in-Err : goal.returns-in-Err
returns-in-Err g c =
    let state = core_state g.S.Held.table g.S.Held.ids in
    let less : deque_len c.pop_front.new.self < deque_capacity c.pop_front.new.self = omega (arith, c.in-Some.ensures.len, c.pop_front.ensures.capacity) in
    let pushed : c.push_front.new.self.items ≡ (c.in-Some.e, c.in-Err.value) ∷ c.pop_front.new.self.items = rw (c.push_front.ensures.succeeds less) at c.push_front.ensures.items in
    let kept : c.into_vec.result.items ≡ c.loop-e.left.items = c.into_vec.ensures.items ∙ pushed ∙ ap (λ v. (c.in-Some.e, v) ∷ c.pop_front.new.self.items) c.in-Err.ensures.back ∙ sym c.in-Some.ensures.items in
    record { done = keeps_rest g.S.Held.place (state c.args.core.now) (state c.loop-e.core) (state c.insert_one.new.core) c.args.pairs.items c.loop-e.left.items c.into_vec.result.items c.pop_front.new.self.items c.loop-e.refused c.in-Some.e c.in-Some.value c.loop-e.invariant.inserting kept c.in-Some.ensures.items c.in-Err.ensures.wants c.in-Err.ensures.err }

pub returns : goal.returns
returns g c =
    let state = core_state g.S.Held.table g.S.Held.ids in
    let h = c.loop-e.invariant.inserting in
    let none : c.loop-e.left.items ≡ [] = nil_from_length _ (omega (arith, c.in_default.ensures.cases.0)) in
    record { done = subst (λ xs. InsertsAll g.S.Held.place (state c.args.core.now) xs c.loop-e.refused (state c.loop-e.core)) (sym (h.parts ∙ ap (λ xs. h.done ++ xs) none ∙ append-nil h.done)) h.inserted }
