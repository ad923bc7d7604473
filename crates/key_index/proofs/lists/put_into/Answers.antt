use Rattle.std.proofs.Common.{◌≡◌, ◌<◌, ◌≤◌, ℕ, List, length, get_or, sym, ◌∙◌, subst, arith, Ok, Err}
use Rattle.std.specs.List.Sorted.{IsStrictlyIncreasing}
use Rattle.std.proofs.lemmas.List.Sorted.{searched}
use Rattle.key_index.specs.Indices.{with_index}
use Rattle.key_index.proofs.Places.{does_not_fall, rises, put_again, put_at}
use Rattle.key_index.proofs.lists.put_into.Goals as goal

pub returns-in-Ok-clause-ok : goal.returns-in-Ok-clause-ok
returns-in-Ok-clause-ok c up =
    let xs = c.deref.result.now in
    let same : c.deref.result.now ≡ c.args.list.now.items = c.deref.ensures.value in
    let up' : IsStrictlyIncreasing c.deref.result.now = subst (λ (ys : List ℕ). IsStrictlyIncreasing ys) (sym same) up in
    let f = searched c.deref.result.now c.args.id (Ok c.in-Ok.field-0) c.in-Ok.ensures.position (does_not_fall c.deref.result.now up') in
    let here : get_or c.deref.result.now c.in-Ok.field-0 0 ≡ c.args.id = f.1 in
    let r = put_again c.deref.result.now c.args.id c.in-Ok.field-0 f.0 here (λ j lt. let a = rises c.deref.result.now up' j c.in-Ok.field-0 lt f.0 in omega arith) in
    subst (λ (ys : List ℕ). ys ≡ with_index c.args.id ys) same r

pub returns-in_ok-insert-in-Err-clause-ok : goal.returns-in_ok-insert-in-Err-clause-ok
returns-in_ok-insert-in-Err-clause-ok c up =
    let same : c.deref.result.now ≡ c.args.list.now.items = c.deref.ensures.value in
    let up' : IsStrictlyIncreasing c.deref.result.now = subst (λ (ys : List ℕ). IsStrictlyIncreasing ys) (sym same) up in
    let f = searched c.deref.result.now c.args.id (Err c.in-Err.place) c.in-Err.ensures.position (does_not_fall c.deref.result.now up') in
    let f' = subst (λ (ys : List ℕ). (c.in-Err.place ≤ length ys) × ((k : ℕ) → k < c.in-Err.place → get_or ys k 0 < c.args.id) × ((k : ℕ) → c.in-Err.place ≤ k → k < length ys → c.args.id < get_or ys k 0)) same f in
    c.in_ok-insert-in-Err.ensures.items ∙ put_at c.args.list.now.items c.args.id c.in-Err.place f'.0 f'.1 f'.2
