-- What leads from one map to another.
use Rattle.std.proofs.Common.{◌≡◌, ℕ, zero, suc, ◌+◌, ◌^◌, ◌≤◌, ◌<◌, Bool, true, false, not, ◌&&◌, ◌||◌, eqb, cond, List, [], ◌∷◌, ◌++◌, map, refl, sym, ap, ◌∙◌, Option, Some, None, is_some, inl, inr, arith}
use Rattle.std.specs.Prelude.{IsSome}
use Rattle.std.specs.List.{list_any}
use mathlib.Core.Path.{fun_ext}
use Rattle.std.proofs.lemmas.Bool.{false≢true, cases_Bool, cases_eq, eq-eqb, ne_eqb}
use Rattle.std.proofs.lemmas.List.Folds.{list_any-append}
use Rattle.hibits.specs.declared.limits.TheConstants.{INDEX_LIMIT}
use Rattle.hibits.specs.Left.{left, passing}
use Rattle.entities.specs.declared.entity.Entity.{Entity}
use Rattle.entities.specs.Population.{index_of}
use Rattle.entities.specs.Deaths.{has_index}
use Rattle.storages.specs.declared.event.ComponentEvent.{ComponentEvent}
use Rattle.storages.specs.declared.event.ComponentEvent.TheVariants.{Inserted, Modified, Removed}
use Rattle.storages.specs.Removals.{lost, without_one as set_without}
use Rattle.specs.specs.Slots.Maps.{Map, has_value, put, without, without_one, no_value}
use Rattle.storages.specs.Named.{index_at, is_named}
use Rattle.specs.specs.Reading.Leading.{replay_one, replay, Leads}

pub replay-append : (a b : List ComponentEvent) (has : ℕ → Bool) → replay (a ++ b) has ≡ replay b (replay a has)
replay-append [] b has = refl
replay-append (e ∷ a) b has = replay-append a b (replay_one e has)

pub or_false : (a b : Bool) → (a || b) ≡ false → (a ≡ false) × (b ≡ false)
or_false true b e = absurd (false≢true (sym e))
or_false false b e = (refl, e)

eqb-same : (i : ℕ) → eqb i i ≡ true
eqb-same i = eq-eqb i i refl

removed_mask : (is : List ℕ) (has : ℕ → Bool) (j : ℕ) → replay (map Removed is) has j ≡ (has j && not (list_any (λ i. eqb i j) is))
removed_mask [] has j = and_true (has j)
  where
    and_true : (a : Bool) → a ≡ (a && true)
    and_true true = refl
    and_true false = refl
removed_mask (i ∷ is) has j = removed_mask is (λ q. has q && not (eqb i q)) j ∙ split (has j) (eqb i j) (list_any (λ i. eqb i j) is)
  where
    split : (a b c : Bool) → ((a && not b) && not c) ≡ (a && not (b || c))
    split true true c = refl
    split true false c = refl
    split false b c = refl

removed_named : (is : List ℕ) (j : ℕ) → is_named j (map Removed is) ≡ list_any (λ i. eqb i j) is
removed_named [] j = refl
removed_named (i ∷ is) j = ap (λ b. eqb i j || b) (removed_named is j)

-- an index of the list that has a value stands among the lost
in_lost : (es : List Entity) (has : ℕ → Bool) (j : ℕ) → has j ≡ true → list_any (λ i. eqb i j) (lost es has) ≡ has_index es j
in_lost [] has j h = refl
in_lost (e ∷ es) has j h = elim (cases_eq (index_of e) j) [
  | inl same ↦ rw (ap has same ∙ h, eq-eqb (index_of e) j same) refl
  | inr other ↦ elim (cases_Bool (has (index_of e))) [
    | inl on ↦ rw (on, ne_eqb (index_of e) j other) (in_lost es (set_without has (index_of e)) j (rw (h, ne_eqb (index_of e) j other) refl))
    | inr off ↦ rw (off, ne_eqb (index_of e) j other) (in_lost es has j h)
  ]
]

-- a member below the limit is in the list of the members
in_passing : (p : ℕ → Bool) (n a i : ℕ) → a ≤ i → i < a + n → p i ≡ true → list_any (λ k. eqb k i) (passing p a n) ≡ true
unfolding passing
in_passing p zero a i ge lt e = absurd (omega arith)
in_passing p (suc n) a i ge lt e = elim (cases_eq a i) [
  | inl same ↦ rw (ap p same ∙ e) (rw (eq-eqb a i same) refl)
  | inr other ↦
      let rest = in_passing p n (suc a) i (omega (arith, other)) (omega arith) e in
      elim (p a) as (λ b. list_any (λ k. eqb k i) (cond b (a ∷ passing p (suc a) n) (passing p (suc a) n)) ≡ true) [
        | true ↦ rw (ne_eqb a i other) rest
        | false ↦ rest
      ]
]

in_left : (p : ℕ → Bool) (i : ℕ) → i < INDEX_LIMIT → p i ≡ true → list_any (λ k. eqb k i) (left p 0) ≡ true
unfolding left
in_left p i lt e = in_passing p INDEX_LIMIT 0 i (omega arith) (omega arith) e

module _ {V : Type 0} where
  pub leads_none : (m : Map V) → Leads m m []
  leads_none m = record { mask = λ i. refl; kept = λ i e. refl }

  pub leads_more : (a b c : Map V) (es fs : List ComponentEvent) → Leads a b es → Leads b c fs → Leads a c (es ++ fs)
  leads_more a b c es fs l k = record {
    mask = λ i. k.mask i ∙ ap (λ (p : ℕ → Bool). replay fs p i) (fun_ext l.mask) ∙ ap (λ (p : ℕ → Bool). p i) (sym (replay-append es fs (has_value a)));
    kept = λ i e.
        let off = or_false (is_named i es) (is_named i fs) (sym (list_any-append (λ e. eqb (index_at e) i) es fs) ∙ e) in
        k.kept i off.1 ∙ l.kept i off.0;
  }

  -- a value put where one was, or where none was
  pub leads_put : (m : Map V) (i : ℕ) (v : V) → Leads m (put m i v) (cond (has_value m i) (Modified i) (Inserted i) ∷ [])
  leads_put m i v = record { mask = λ j. mask j; kept = λ j. kept j }
    where
      mask : (j : ℕ) → has_value (put m i v) j ≡ replay_one (cond (has_value m i) (Modified i) (Inserted i)) (has_value m) j
      mask j = elim (cases_Bool (has_value m i)) [
        | inl on ↦ rw on (elim (cases_eq i j) [
          | inl same ↦ rw (eq-eqb i j same) (sym on ∙ ap (has_value m) same)
          | inr other ↦ rw (ne_eqb i j other) refl
        ])
        | inr off ↦ rw off (elim (cases_eq i j) [
          | inl same ↦ rw (eq-eqb i j same) (or_true (has_value m j))
          | inr other ↦ rw (ne_eqb i j other) (or_off (has_value m j))
        ])
      ]
        where
          or_true : (a : Bool) → true ≡ (a || true)
          or_true true = refl
          or_true false = refl

          or_off : (a : Bool) → a ≡ (a || false)
          or_off true = refl
          or_off false = refl

      of_index : (b : Bool) → index_at (cond b (Modified i) (Inserted i)) ≡ i
      of_index true = refl
      of_index false = refl

      kept : (j : ℕ) → is_named j (cond (has_value m i) (Modified i) (Inserted i) ∷ []) ≡ false → put m i v j ≡ m j
      kept j h = rw (sym (ap (λ k. eqb k j) (of_index (has_value m i))) ∙ (or_false _ false h).0) refl

  -- what is at no index of a list
  abbrev pub taken : List ℕ → Map V → Map V
  taken is m j = cond (list_any (λ i. eqb i j) is) None (m j)

  taken_some : (b : Bool) (o : Option V) → is_some (cond b None o) ≡ (is_some o && not b)
  taken_some true None = refl
  taken_some true (Some x) = refl
  taken_some false None = refl
  taken_some false (Some x) = refl

  pub leads_taken : (m m' : Map V) (is : List ℕ) → ((j : ℕ) → m' j ≡ taken is m j) → Leads m m' (map Removed is)
  leads_taken m m' is same = record {
    mask = λ j. ap is_some (same j) ∙ taken_some (list_any (λ i. eqb i j) is) (m j) ∙ sym (removed_mask is (has_value m) j);
    kept = λ j e. same j ∙ ap (λ b. cond b None (m j)) (sym (removed_named is j) ∙ e);
  }

  none_by : (o : Option V) → is_some o ≡ false → o ≡ None
  none_by None e = refl
  none_by (Some x) e = absurd (false≢true (sym e))

  -- the value of an index taken out, where there is one
  pub leads_without_one : (m : Map V) (i : ℕ) → has_value m i ≡ true → Leads m (without_one m i) (Removed i ∷ [])
  leads_without_one m i on = leads_taken m (without_one m i) (i ∷ []) one
    where
      one : (j : ℕ) → without_one m i j ≡ taken (i ∷ []) m j
      one j = elim (eqb i j) as (λ b. cond b None (m j) ≡ cond (b || false) None (m j)) [ true ↦ refl | false ↦ refl ]

  -- and where there is none
  pub same_without_one : (m : Map V) (i : ℕ) → has_value m i ≡ false → (j : ℕ) → without_one m i j ≡ m j
  same_without_one m i off j = elim (cases_eq i j) [
    | inl s ↦ rw (eq-eqb i j s) (sym (none_by (m i) off) ∙ ap m s)
    | inr other ↦ rw (ne_eqb i j other) refl
  ]

  pub leads_lost : (m : Map V) (es : List Entity) → Leads m (without es m) (map Removed (lost es (has_value m)))
  leads_lost m es = leads_taken m (without es m) (lost es (has_value m)) each
    where
      each : (j : ℕ) → without es m j ≡ taken (lost es (has_value m)) m j
      each j = elim (cases_Bool (has_value m j)) [
        | inl on ↦ ap (λ b. cond b None (m j)) (sym (in_lost es (has_value m) j on))
        | inr off ↦ rw (none_by (m j) off) (both (has_index es j) (list_any (λ i. eqb i j) (lost es (has_value m))))
      ]
        where
          both : (a b : Bool) → cond {A = Option V} a None None ≡ cond {A = Option V} b None None
          both true true = refl
          both true false = refl
          both false true = refl
          both false false = refl

  pub leads_cleared : (m : Map V) → ((i : ℕ) → IsSome (m i) → i < INDEX_LIMIT) → Leads m no_value (map Removed (left (has_value m) 0))
  leads_cleared m below = leads_taken m no_value (left (has_value m) 0) each
    where
      each : (j : ℕ) → no_value j ≡ taken (left (has_value m) 0) m j
      each j = elim (cases_Bool (has_value m j)) [
        | inl on ↦ rw (in_left (has_value m) j (below j on) on) refl
        | inr off ↦ rw (none_by (m j) off) (nothing (list_any (λ i. eqb i j) (left (has_value m) 0)))
      ]
        where
          nothing : (b : Bool) → cond {A = Option V} true None None ≡ cond {A = Option V} b None None
          nothing true = refl
          nothing false = refl
