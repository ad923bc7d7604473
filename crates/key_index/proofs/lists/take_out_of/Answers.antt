use Rattle.std.proofs.Common.{◌≡◌, ◌<◌, ◌≤◌, ℕ, List, length, get_or, sym, ◌∙◌, subst, arith, Ok, Err, inl, inr}
use Rattle.std.specs.List.Sorted.{IsStrictlyIncreasing}
use Rattle.std.proofs.lemmas.Bool.{cases_lt}
use Rattle.std.proofs.lemmas.List.Sorted.{searched}
use Rattle.key_index.proofs.Places.{does_not_fall, rises, cut_at, cut_none}
use Rattle.key_index.proofs.lists.take_out_of.Goals as goal

pub returns-in-Ok : goal.returns-in-Ok
returns-in-Ok c up =
    let same : c.deref.result.now ≡ c.args.list.now.items = c.deref.ensures.value in
    let up' : IsStrictlyIncreasing c.deref.result.now = subst (λ (ys : List ℕ). IsStrictlyIncreasing ys) (sym same) up in
    let f = searched c.deref.result.now c.args.id (Ok c.in-Ok.place) c.in-Ok.ensures.position (does_not_fall c.deref.result.now up') in
    let f' = subst (λ (ys : List ℕ). (c.in-Ok.place < length ys) × (get_or ys c.in-Ok.place 0 ≡ c.args.id)) same f in
    let here : get_or c.args.list.now.items c.in-Ok.place 0 ≡ c.args.id = f'.1 in
    c.remove.ensures.items
    ∙ cut_at c.args.list.now.items c.args.id c.in-Ok.place f'.0 here (λ j lt. let a = rises c.args.list.now.items up j c.in-Ok.place lt f'.0 in omega arith)

pub returns-in_default : goal.returns-in_default
returns-in_default c up =
    let same : c.deref.result.now ≡ c.args.list.now.items = c.deref.ensures.value in
    let up' : IsStrictlyIncreasing c.deref.result.now = subst (λ (ys : List ℕ). IsStrictlyIncreasing ys) (sym same) up in
    let place = c.in_default.field-0 in
    let f = searched c.deref.result.now c.args.id (Err c.in_default.field-0) c.in_default.ensures.position (does_not_fall c.deref.result.now up') in
    let f' = subst (λ (ys : List ℕ). (c.in_default.field-0 ≤ length ys) × ((k : ℕ) → k < c.in_default.field-0 → get_or ys k 0 < c.args.id) × ((k : ℕ) → c.in_default.field-0 ≤ k → k < length ys → c.args.id < get_or ys k 0)) same f in
    cut_none c.args.list.now.items c.args.id
    (λ j lt e. elim (cases_lt j c.in_default.field-0) [
      | inl below ↦ let a = f'.1 j below in absurd (omega (arith, e, a))
      | inr above ↦ let a = f'.2 j above lt in absurd (omega (arith, e, a))
    ])
