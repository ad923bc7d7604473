use Rattle.std.proofs.Common.{refl, sym, ◌∙◌, ap, subst, ◌≡◌, ℕ, [], List, ◌∷◌, ◌++◌, Some}
use Rattle.std.specs.List.{Contains}
use Rattle.std.specs.FinMap as map
use Rattle.std.specs.Ordering.{nat_cmp}
use Rattle.hibits.specs.Left.{left-ascends}
use Rattle.joins.specs.ChangeCursor.{values, here, rest, gives}
use Rattle.joins.proofs.CallLemmas.{at_some, moved_over, ahead_keeps}
use Rattle.joins.proofs.ChangeCallLemmas.{value_more, value_kept, value_found, values_become, values_done}
use Rattle.joins.proofs.cursors.change_join.ChangeJoin.for_each.Goals as goal

pub loop-id-init : goal.loop-id-init
loop-id-init g c = record { same_name = refl; given = λ i r h. h; ahead = λ q h. refl; calls = ([], refl, (refl, refl)) }

pub loop-id-preserved : goal.loop-id-preserved
loop-id-preserved g c =
    let i = c.in-Some._id in
    let w = c.f.new.arg2 in
    let h = c.item.follows.holds w in
    let next = c.in-Some.ensures in
    let beside = c.in-Some-beside.ensures in
    let at : here c.beside.new.self ≡ Some i = beside.here ∙ next.here in
    let same : values c.beside.new.self ≡ values c.loop-id.self = beside.values ∙ next.values in
    let now = c.item.follows.lender w in
    let put = at_some (λ k. values now ≡ map.insert (values c.beside.new.self) k w) _ i at h.becomes in
    let becomes : values now ≡ map.insert (values c.loop-id.self) i w = put ∙ ap (λ (m : map.FinMap nat_cmp _). map.insert m i w) same in
    let was = at_some (λ k. map.get (values c.beside.new.self) k ≡ Some c.in-Some-item.value.now) _ i at c.in-Some-item.ensures.value in
    let given = at_some (λ k. gives c.next.new.self k c.in-Some-beside.item) _ i next.here beside.given in
    let left : rest now ≡ rest c.next.new.self = h.stays.rest ∙ beside.rest in
    let inv = c.loop-id.invariant in
    let done = inv.calls.0 in
    record {
      same_name = h.stays.same_reference ∙ beside.same_reference ∙ next.same_reference ∙ inv.same_name;
      given = λ k r e. inv.given k r (next.gives k r (beside.gives k r (h.stays.gives k r e)));
      ahead = λ q d. ahead_keeps _ _ i _ _ _ w (left-ascends _ _) next.rest becomes inv.ahead q (subst (λ (l : List ℕ). Contains l q) left d);
      calls = (
        done ++ (i ∷ []),
        inv.calls.1 ∙ ap (λ (l : List ℕ). done ++ l) (next.rest ∙ ap (λ (l : List ℕ). i ∷ l) (sym left)) ∙ sym (moved_over done i _),
        value_more _ _ done i _ _ _ _ _ _ inv.calls.2 (record {
          value = c.in-Some-item.value;
          item = c.in-Some-beside.item;
          after_call = _;
          was = sym (ap (λ (m : map.FinMap nat_cmp _). map.get m i) same) ∙ was;
          beside = inv.given i _ (next.gives i _ given);
          call = c.f.ensures;
          becomes = becomes;
        }),
      );
    }

pub returns-clause-same_reference : goal.returns-clause-same_reference
returns-clause-same_reference g c = c.in_default.ensures.same_reference ∙ c.loop-id.invariant.same_name

pub returns-clause-calls : goal.returns-clause-calls
returns-clause-calls g c =
    let inv = c.loop-id.invariant in
    (_, values_done _ _ _ inv.calls.0 _ _ _ _ _ _ inv.calls.1 c.in_default.ensures.rest c.in_default.ensures.values inv.calls.2)

pub returns-clause-each : goal.returns-clause-each
returns-clause-each g c q d =
    let inv = c.loop-id.invariant in
    value_found _ _ _ q _ _ _ _ (left-ascends _ _) d (values_done _ _ _ inv.calls.0 _ _ _ _ _ _ inv.calls.1 c.in_default.ensures.rest c.in_default.ensures.values inv.calls.2)

pub returns-clause-others : goal.returns-clause-others
returns-clause-others g c q d =
    let inv = c.loop-id.invariant in
    value_kept _ _ _ q _ _ _ _ d (values_done _ _ _ inv.calls.0 _ _ _ _ _ _ inv.calls.1 c.in_default.ensures.rest c.in_default.ensures.values inv.calls.2)

pub returns-clause-becomes : goal.returns-clause-becomes
returns-clause-becomes g c to h =
    let inv = c.loop-id.invariant in
    values_become _ _ to h _ _ _ _ _ (values_done _ _ _ inv.calls.0 _ _ _ _ _ _ inv.calls.1 c.in_default.ensures.rest c.in_default.ensures.values inv.calls.2)
