-- What each reader of a channel has to read after a call: words of the clauses, and the laws for a caller's `using(..)`.
use Rattle.std.proofs.Common.{◌≡◌, ◌≢◌, ℕ, ◌++◌, Bool, true, false, eqb, cond, List, [], ◌∷◌, map, refl, sym, ap, ◌∙◌, Some, None, inl, inr, append_assoc}
use Rattle.std.specs.Prelude.{Option}
use Rattle.std.proofs.lemmas.Bool.{false≢true, cases_Bool, cases_eq, eq-eqb, ne_eqb}
use Rattle.std.proofs.lemmas.List.{append-nil}
use Rattle.std.proofs.lemmas.Option.{none-some}
use Rattle.storages.specs.declared.event.ComponentEvent.{ComponentEvent}
use Rattle.storages.specs.declared.event.ComponentEvent.TheVariants.{Removed}
use Rattle.storages.specs.Channel.{Channel, emitted, written_removals, emitted_removals}
use Rattle.storages.specs.Unread.{written, with_event, with_events, unread_of, emptied, dropped}

-- the removal of each of these indices
abbrev pub removals : List ℕ → List ComponentEvent
removals is = map Removed is

-- each reader has these events to read besides, in this order, and while emission is off nobody has any more
pub record Tells (c : Channel) (es : List ComponentEvent) (c' : Channel) : Type 0 where
  pub on : c.emission ≡ true → (n : ℕ) → unread_of n c'.readers ≡ with_events es (unread_of n c.readers)
  pub off : c.emission ≡ false → (n : ℕ) → unread_of n c'.readers ≡ unread_of n c.readers

-- every reader but one has to read what it had
abbrev pub OthersKeep : ℕ → Channel → Channel → Type 0
OthersKeep n c c' = (k : ℕ) → k ≢ n → unread_of k c'.readers ≡ unread_of k c.readers

module _ {E : Type 0} where
  one_event : (e : E) (o : Option (List E)) → with_event e o ≡ with_events (e ∷ []) o
  one_event e None = refl
  one_event e (Some us) = refl

  pub no_events : (o : Option (List E)) → with_events [] o ≡ o
  no_events None = refl
  no_events (Some us) = ap Some (append-nil us)

  pub more_events : (es fs : List E) (o : Option (List E)) → with_events fs (with_events es o) ≡ with_events (es ++ fs) o
  more_events es fs None = refl
  more_events es fs (Some us) = ap Some (append_assoc us es fs)

  -- what each reader has to read after an event
  pub written_unread : (e : E) (k : ℕ) (rs : List (ℕ × List E)) → unread_of k (written e rs) ≡ with_event e (unread_of k rs)
  written_unread e k [] = refl
  written_unread e k (r ∷ rs) = elim (cases_Bool (eqb r.0 k)) [
    | inl same ↦ rw same refl
    | inr other ↦ rw other (written_unread e k rs)
  ]

  pub written_events : (e : E) (k : ℕ) (rs : List (ℕ × List E)) → unread_of k (written e rs) ≡ with_events (e ∷ []) (unread_of k rs)
  written_events e k rs = written_unread e k rs ∙ one_event e (unread_of k rs)

  -- after a registration
  pub registered_unread : (k : ℕ) (rs : List (ℕ × List E)) → unread_of k rs ≡ None → unread_of k (rs ++ (k, []) ∷ []) ≡ Some []
  registered_unread k [] e = rw (eq-eqb k k refl) refl
  registered_unread k (r ∷ rs) e = elim (cases_Bool (eqb r.0 k)) [
    | inl same ↦ absurd (none-some r.1 (sym (rw same at e)))
    | inr other ↦ rw other (registered_unread k rs (rw other at e))
  ]

  pub registered_others : (k n : ℕ) (rs : List (ℕ × List E)) → n ≢ k → unread_of n (rs ++ (k, []) ∷ []) ≡ unread_of n rs
  registered_others k n [] o = rw (ne_eqb k n (λ e. o (sym e))) refl
  registered_others k n (r ∷ rs) o = ap (cond (eqb r.0 n) (Some r.1)) (registered_others k n rs o)

  -- after a reading
  pub emptied_unread : (k : ℕ) (es : List E) (rs : List (ℕ × List E)) → unread_of k rs ≡ Some es → unread_of k (emptied k rs) ≡ Some []
  emptied_unread k es [] e = absurd (none-some es e)
  emptied_unread k es (r ∷ rs) e = elim (cases_Bool (eqb r.0 k)) [
    | inl same ↦ rw same (rw same refl)
    | inr other ↦ rw other (rw other (emptied_unread k es rs (rw other at e)))
  ]

  pub emptied_others : (k n : ℕ) (rs : List (ℕ × List E)) → n ≢ k → unread_of n (emptied k rs) ≡ unread_of n rs
  emptied_others k n [] o = refl
  emptied_others k n (r ∷ rs) o = elim (cases_eq r.0 k) [
    | inl same ↦ rw (eq-eqb r.0 k same, ne_eqb r.0 n (λ e. o (sym e ∙ same))) refl
    | inr other ↦ rw (ne_eqb r.0 k other) (ap (cond (eqb r.0 n) (Some r.1)) (emptied_others k n rs o))
  ]

  -- after the end of a reader
  pub dropped_gone : (k : ℕ) (rs : List (ℕ × List E)) → unread_of k (dropped k rs) ≡ None
  dropped_gone k [] = refl
  dropped_gone k (r ∷ rs) = elim (cases_Bool (eqb r.0 k)) [
    | inl same ↦ rw same (dropped_gone k rs)
    | inr other ↦ rw other (rw other (dropped_gone k rs))
  ]

  pub dropped_others : (k n : ℕ) (rs : List (ℕ × List E)) → n ≢ k → unread_of n (dropped k rs) ≡ unread_of n rs
  dropped_others k n [] o = refl
  dropped_others k n (r ∷ rs) o = elim (cases_eq r.0 k) [
    | inl same ↦ rw (eq-eqb r.0 k same, ne_eqb r.0 n (λ e. o (sym e ∙ same))) (dropped_others k n rs o)
    | inr other ↦ rw (ne_eqb r.0 k other) (ap (cond (eqb r.0 n) (Some r.1)) (dropped_others k n rs o))
  ]

-- after a removal of each of these indices
pub removals_unread : (n : ℕ) (is : List ℕ) (rs : List (ℕ × List ComponentEvent)) → unread_of n (written_removals is rs) ≡ with_events (removals is) (unread_of n rs)
removals_unread n [] rs = sym (no_events (unread_of n rs))
removals_unread n (i ∷ is) rs =
    removals_unread n is (written (Removed i) rs) ∙ ap (with_events (removals is)) (written_events (Removed i) n rs)
    ∙ more_events (Removed i ∷ []) (removals is) (unread_of n rs)

-- what a call tells that emits nothing, that emits one event, that emits two, and that emits a removal of each index
pub tells_nothing : (c c' : Channel) → c' ≡ c → Tells c [] c'
tells_nothing c c' e = record {
  on = λ on n. ap (λ (k : Channel). unread_of n k.readers) e ∙ sym (no_events (unread_of n c.readers));
  off = λ off n. ap (λ (k : Channel). unread_of n k.readers) e;
}

-- one call, and then another
pub tells_then : (c d c' : Channel) (es fs : List ComponentEvent) → d.emission ≡ c.emission → Tells c es d → Tells d fs c' → Tells c (es ++ fs) c'
tells_then c d c' es fs e a b = record {
  on = λ on n. b.on (e ∙ on) n ∙ ap (with_events fs) (a.on on n) ∙ more_events es fs (unread_of n c.readers);
  off = λ off n. b.off (e ∙ off) n ∙ a.off off n;
}

emits : (b : Bool) (es : List ComponentEvent) (n : ℕ) (ws rs : List (ℕ × List ComponentEvent)) → unread_of n ws ≡ with_events es (unread_of n rs) → b ≡ true
    → unread_of n (cond b ws rs) ≡ with_events es (unread_of n rs)
emits true es n ws rs e on = e
emits false es n ws rs e on = absurd (false≢true on)

emits_not : (b : Bool) (n : ℕ) (ws rs : List (ℕ × List ComponentEvent)) → b ≡ false → unread_of n (cond b ws rs) ≡ unread_of n rs
emits_not true n ws rs off = absurd (false≢true (sym off))
emits_not false n ws rs off = refl

pub tells_one : (e : ComponentEvent) (c c' : Channel) → c' ≡ emitted e c → Tells c (e ∷ []) c'
tells_one e c c' is = record {
  on = λ on n. ap (λ (k : Channel). unread_of n k.readers) is ∙ emits c.emission (e ∷ []) n (written e c.readers) c.readers (written_events e n c.readers) on;
  off = λ off n. ap (λ (k : Channel). unread_of n k.readers) is ∙ emits_not c.emission n (written e c.readers) c.readers off;
}

pub tells_two : (e f : ComponentEvent) (c c' : Channel) → c' ≡ emitted f (emitted e c) → Tells c (e ∷ f ∷ []) c'
tells_two e f c c' is = tells_then c (emitted e c) c' (e ∷ []) (f ∷ []) refl (tells_one e c (emitted e c) refl) (tells_one f (emitted e c) c' is)

pub tells_removals : (is : List ℕ) (c c' : Channel) → c' ≡ emitted_removals is c → Tells c (removals is) c'
tells_removals is c c' e = record {
  on = λ on n. ap (λ (k : Channel). unread_of n k.readers) e ∙ emits c.emission (removals is) n (written_removals is c.readers) c.readers (removals_unread n is c.readers) on;
  off = λ off n. ap (λ (k : Channel). unread_of n k.readers) e ∙ emits_not c.emission n (written_removals is c.readers) c.readers off;
}
